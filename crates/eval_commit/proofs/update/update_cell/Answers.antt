use Rattle.std.proofs.Common.{◌≡◌, sym, ◌∙◌, ap, arith}
use Rattle.std.specs.Prelude.{slice_get}
use Rattle.sim_base.specs.BitValue.{digit_of}
use Rattle.signal_words.specs.Values.{digits_in}
use Rattle.cell_changes.proofs.Same.{output_stays}
use Rattle.eval_plan.specs.Sources.{cell_row}
use Rattle.eval_commit.specs.Computed.{cell_changes, cell_number}
use Rattle.eval_commit.proofs.Telling.{nothing_listed, nothing_told}
use Rattle.eval_commit.proofs.Updating.{stays_spread}
use Rattle.eval_commit.proofs.Belonging.{fetched}
use Rattle.eval_commit.proofs.update.update_cell.Goals as goal

pub has_changed-requires-clause-before : goal.has_changed-requires-clause-before
has_changed-requires-clause-before g c =
    c.law_of_readings.ensures c.args.circuit.now c.args.before.now c.args.n c.index-as_slice-n.result c.requires.valid c.requires.before
    (fetched c.args.circuit.now.cells c.as_slice.result.now c.args.n c.index-as_slice-n.result c.as_slice.ensures c.requires.there c.index-as_slice-n.is)

pub has_changed-requires-clause-now : goal.has_changed-requires-clause-now
has_changed-requires-clause-now g c =
    c.law_of_readings.ensures c.args.circuit.now c.args.store.now c.args.n c.index-as_slice-n.result c.requires.valid c.requires.store
    (fetched c.args.circuit.now.cells c.as_slice.result.now c.args.n c.index-as_slice-n.result c.as_slice.ensures c.requires.there c.index-as_slice-n.is)

pub returns-else-has_changed-clause-spread : goal.returns-else-has_changed-clause-spread
returns-else-has_changed-clause-spread g c =
    let before = digits_in c.args.before.now.nets in
    let now = digits_in c.args.store.now.nets in
    let at = fetched c.args.circuit.now.cells c.as_slice.result.now c.args.n c.index-as_slice-n.result c.as_slice.ensures c.requires.there c.index-as_slice-n.is in
    stays_spread c.args.plan.now.roots (cell_row c.args.plan.now.sources c.args.n) (cell_number before (slice_get c.args.circuit.now.cells c.args.n)) (cell_number now (slice_get c.args.circuit.now.cells c.args.n)) c.args.store.now.nets c.requires.shown
    (ap (cell_number before) at ∙ output_stays c.index-as_slice-n.result before now (sym c.has_changed.ensures ∙ c.if-has_changed.false) ∙ sym (ap (cell_number now) at))

pub returns-else-has_changed-clause-steps : goal.returns-else-has_changed-clause-steps
returns-else-has_changed-clause-steps g c =
    let before = digits_in c.args.before.now.nets in
    let now = digits_in c.args.store.now.nets in
    let at = fetched c.args.circuit.now.cells c.as_slice.result.now c.args.n c.index-as_slice-n.result c.as_slice.ensures c.requires.there c.index-as_slice-n.is in
    let none : cell_changes before now (slice_get c.args.circuit.now.cells c.args.n) ≡ 0 = ap (cell_changes before now) at ∙ ap digit_of (sym c.has_changed.ensures ∙ c.if-has_changed.false) in
    omega (arith, none)

pub returns-else-has_changed-clause-told : goal.returns-else-has_changed-clause-told
returns-else-has_changed-clause-told g c = nothing_told c.args.plan.now.roots c.args.plan.now.readers c.args.store.now.nets c.args.marks.now

pub returns-else-has_changed-clause-listed : goal.returns-else-has_changed-clause-listed
returns-else-has_changed-clause-listed g c = nothing_listed c.args.plan.now.readers (cell_row c.args.plan.now.sources c.args.n) c.args.marks.now
