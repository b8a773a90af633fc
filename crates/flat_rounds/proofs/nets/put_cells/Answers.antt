use Rattle.std.proofs.Common.{◌≡◌, sym, ◌∙◌, ap, length, subst, refl, arith, Some}
use Rattle.std.specs.Prelude.{slice_get}
use Rattle.std.proofs.lemmas.Option.{slice_get_read, slice_get_within}
use Rattle.circuit.specs.Signal.{digits_of_nets}
use Rattle.circuit.specs.Output.{output}
use Rattle.flat_rounds.proofs.Pass.{cell_fits, cell_right, cell_skip, drive_cell, there}
use Rattle.flat_rounds.proofs.Reading.{word_cell}
use Rattle.flat_rounds.specs.Pass.{IsEvaluated}
use Rattle.flat_rounds.specs.Word.{IsWordCell}
use Rattle.flat_rounds.proofs.nets.put_cells.Goals as goal
use Rattle.flat_rounds.proofs.nets.put_cells.Goals.{in-Cell, in_default}

drive_is : (c : goal.Joined-drive) → slice_get c.args.circuit.now.drives c.loop-drive.drive-index ≡ Some c.drive-item.result
drive_is c =
    subst (λ ds. slice_get ds c.loop-drive.drive-index ≡ Some c.drive-item.result) c.as_slice-drive-items.ensures
    (slice_get_read c.as_slice-drive-items.result.now (length c.as_slice-drive-items.result.now) c.loop-drive.drive-index c.drive-item.result refl (omega arith) c.drive-item.is)

pub cell_word-word-requires : goal.cell_word-word-requires
cell_word-word-requires c =
    let at = subst (λ ds. slice_get ds c.loop-drive.drive-index ≡ Some c.drive-item.result) c.as_slice-drive-items.ensures
    (slice_get_read c.as_slice-drive-items.result.now (length c.as_slice-drive-items.result.now) c.loop-drive.drive-index c.drive-item.result refl (omega arith) c.drive-item.is) in
    let cell = drive_cell c.args.circuit.now c.requires.flat c.loop-drive.drive-index c.in-Cell.n c.in-Cell.field-1 c.drive-item.result at c.in-Cell.is in
    let is = subst (λ xs. slice_get xs c.in-Cell.n ≡ Some c.index-cells-n.result) c.as_slice-cells.ensures
    (slice_get_read c.as_slice-cells.result.now (length c.as_slice-cells.result.now) c.in-Cell.n c.index-cells-n.result refl
    (omega (arith, slice_get_within c.args.circuit.now.cells c.in-Cell.n cell.0 cell.1, ap length c.as_slice-cells.ensures)) c.index-cells-n.is) in
    subst (λ ns. IsWordCell ns c.index-cells-n.result) (sym c.deref.ensures.value)
    (word_cell c.args.circuit.now c.loop-drive.nets.items c.index-cells-n.result c.loop-drive.invariant.fits (c.requires.flat.cells c.in-Cell.n c.index-cells-n.result is))

pub index_mut-requires : goal.index_mut-requires
index_mut-requires c =
    let at = subst (λ ds. slice_get ds c.loop-drive.drive-index ≡ Some c.drive-item.result) c.as_slice-drive-items.ensures
    (slice_get_read c.as_slice-drive-items.result.now (length c.as_slice-drive-items.result.now) c.loop-drive.drive-index c.drive-item.result refl (omega arith) c.drive-item.is) in
    omega (arith, c.loop-drive.nets.ok.0, there c.args.circuit.now c.requires.flat c.loop-drive.nets.items c.loop-drive.invariant.fits c.loop-drive.drive-index c.drive-item.result at)

pub loop-drive-preserved : goal.loop-drive-preserved
loop-drive-preserved c =
    let at = drive_is c in
    elim c.match-drive.branch [
      | in-Cell w ↦
          (let cell = drive_cell c.args.circuit.now c.requires.flat c.loop-drive.drive-index w.in-Cell.n w.in-Cell.field-1 c.drive-item.result at w.in-Cell.is in
          let is = subst (λ xs. slice_get xs w.in-Cell.n ≡ Some w.index-cells-n.result) c.as_slice-cells.ensures
          (slice_get_read c.as_slice-cells.result.now (length c.as_slice-cells.result.now) w.in-Cell.n w.index-cells-n.result refl
          (omega (arith, slice_get_within c.args.circuit.now.cells w.in-Cell.n cell.0 cell.1, ap length c.as_slice-cells.ensures)) w.index-cells-n.is) in
          rw (w.nets-is) (record {
            fits = cell_fits c.args.circuit.now c.requires.flat c.loop-drive.nets.items c.loop-drive.invariant.fits c.loop-drive.drive-index w.in-Cell.n w.in-Cell.field-1 w.cell_word-word.result c.drive-item.result w.index-cells-n.result
                at w.in-Cell.is is w.cell_word-word.ensures.below;
            right = λ regs inputs numbers are first. cell_right c.args.circuit.now c.requires.flat regs inputs c.loop-drive.nets.items numbers c.loop-drive.invariant.fits are c.loop-drive.drive-index w.in-Cell.n w.in-Cell.field-1 w.cell_word-word.result c.drive-item.result w.index-cells-n.result
                at w.in-Cell.is is (w.cell_word-word.ensures.value ∙ ap (λ ns. output (digits_of_nets ns) w.index-cells-n.result) w.deref.ensures.value) (c.loop-drive.invariant.right regs inputs numbers are first);
          }))
      | in_default w ↦ rw (w.nets-is) (record {
        fits = c.loop-drive.invariant.fits;
        right = λ regs inputs numbers are first. cell_skip c.args.circuit.now c.loop-drive.nets.items numbers c.loop-drive.drive-index c.drive-item.result at w.in_default.not-Cell
            (c.loop-drive.invariant.right regs inputs numbers are first);
      })
    ]

pub returns-clause-right : goal.returns-clause-right
returns-clause-right c regs inputs numbers are first n done =
    c.loop-drive.invariant.right regs inputs numbers are first n
    (subst (λ k. IsEvaluated c.args.circuit.now k n) (let e : length c.as_slice-drive-items.result.now ≡ length c.args.circuit.now.drives = ap length c.as_slice-drive-items.ensures in omega arith) done)
