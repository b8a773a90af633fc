use Rattle.std.proofs.Common.{◌≡◌, ◌∙◌, List, length, map, take, sym, ap, subst, arith}
use Rattle.std.proofs.Math.Seq.{take-length}
use Rattle.std.proofs.lemmas.Simd.{map-map}
use Rattle.std.specs.Prelude.{IfOk}
use Rattle.sim_base.specs.BitValue.{BitValue, zeros}
use Rattle.circuit.specs.declared.register.Reg.{Reg}
use Rattle.sim_base.specs.Values.{room_of, words_of}
use Rattle.circuit.proofs.Worded.{sum_by-map}
use Rattle.circuit.proofs.store.reg_zeros.Goals as goal

pub new-requires : goal.new-requires
new-requires c =
    let end : c.loop-reg.reg-index ≡ length c.args.regs.now = omega (arith, c.loop-reg-test.false, c.loop-reg.auto.reg-index-end) in
    let widths = c.as_slice.ensures.value ∙ c.loop-reg.invariant ∙ ap (λ i. map (λ (x : Reg). x.init.width) (take i c.args.regs.now)) end ∙ ap (map (λ (x : Reg). x.init.width)) (take-length c.args.regs.now) in
    omega (arith, c.requires, ap room_of widths, sum_by-map words_of (λ (x : Reg). x.init.width) c.args.regs.now)

pub returns : goal.returns
returns c =
    let end : c.loop-reg.reg-index ≡ length c.args.regs.now = omega (arith, c.loop-reg-test.false, c.loop-reg.auto.reg-index-end) in
    subst (λ (l : List BitValue). IfOk c.new.result (λ values. values ≡ l))
    (ap (map zeros) (c.as_slice.ensures.value ∙ c.loop-reg.invariant ∙ ap (λ i. map (λ (x : Reg). x.init.width) (take i c.args.regs.now)) end ∙ ap (map (λ (x : Reg). x.init.width)) (take-length c.args.regs.now))
    ∙ sym (ap (map zeros) (map-map (λ (v : BitValue). v.width) (λ (r : Reg). r.init) c.args.regs.now))) c.new.ensures
