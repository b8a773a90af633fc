use Rattle.std.proofs.Common.{◌≡◌, ◌∙◌, List, length, map, take, ap, subst, arith}
use Rattle.std.proofs.Math.Seq.{take-length}
use Rattle.std.proofs.lemmas.Simd.{map-map}
use Rattle.std.specs.Prelude.{IfOk}
use Rattle.sim_base.specs.BitValue.{BitValue, zeros}
use Rattle.circuit.specs.declared.netlist.Net.{Net}
use Rattle.sim_base.specs.Values.{room_of, words_of}
use Rattle.circuit.proofs.Worded.{sum_by-map}
use Rattle.circuit.proofs.store.start_nets.Goals as goal

pub new-requires : goal.new-requires
new-requires c =
    let end : c.loop-net.net-index ≡ length c.args.nets.now = omega (arith, c.loop-net-test.false, c.loop-net.auto.net-index-end) in
    let widths = c.as_slice.ensures.value ∙ c.loop-net.invariant ∙ ap (λ i. map (λ (x : Net). x.width) (take i c.args.nets.now)) end ∙ ap (map (λ (x : Net). x.width)) (take-length c.args.nets.now) in
    omega (arith, c.requires, ap room_of widths, sum_by-map words_of (λ (x : Net). x.width) c.args.nets.now)

pub returns : goal.returns
returns c =
    let end : c.loop-net.net-index ≡ length c.args.nets.now = omega (arith, c.loop-net-test.false, c.loop-net.auto.net-index-end) in
    subst (λ (l : List BitValue). IfOk c.new.result (λ values. values ≡ l))
    (ap (map zeros) (c.as_slice.ensures.value ∙ c.loop-net.invariant ∙ ap (λ i. map (λ (x : Net). x.width) (take i c.args.nets.now)) end ∙ ap (map (λ (x : Net). x.width)) (take-length c.args.nets.now))
    ∙ map-map zeros (λ (x : Net). x.width) c.args.nets.now) c.new.ensures
