use Rattle.std.proofs.Common.{◌≡◌, ◌∙◌, List, length, map, take, ap, subst, arith}
use Rattle.std.proofs.Math.Seq.{take-length}
use Rattle.std.proofs.lemmas.Simd.{map-map}
use Rattle.std.specs.Prelude.{IfOk}
use Rattle.sim_base.specs.BitValue.{BitValue, zeros}
use Rattle.circuit.specs.declared.cell.Cell.{Cell}
use Rattle.sim_base.specs.Values.{room_of, words_of}
use Rattle.circuit.proofs.Worded.{sum_by-map}
use Rattle.circuit.proofs.store.start_cells.Goals as goal

pub new-requires : goal.new-requires
new-requires c =
    let end : c.loop-cell.cell-index ≡ length c.args.cells.now = omega (arith, c.loop-cell-test.false, c.loop-cell.auto.cell-index-end) in
    let widths = c.as_slice.ensures.value ∙ c.loop-cell.invariant ∙ ap (λ i. map (λ (x : Cell). x.width) (take i c.args.cells.now)) end ∙ ap (map (λ (x : Cell). x.width)) (take-length c.args.cells.now) in
    omega (arith, c.requires, ap room_of widths, sum_by-map words_of (λ (x : Cell). x.width) c.args.cells.now)

pub returns : goal.returns
returns c =
    let end : c.loop-cell.cell-index ≡ length c.args.cells.now = omega (arith, c.loop-cell-test.false, c.loop-cell.auto.cell-index-end) in
    subst (λ (l : List BitValue). IfOk c.new.result (λ values. values ≡ l))
    (ap (map zeros) (c.as_slice.ensures.value ∙ c.loop-cell.invariant ∙ ap (λ i. map (λ (x : Cell). x.width) (take i c.args.cells.now)) end ∙ ap (map (λ (x : Cell). x.width)) (take-length c.args.cells.now))
    ∙ map-map zeros (λ (x : Cell). x.width) c.args.cells.now) c.new.ensures
