use Rattle.std.proofs.Common.{sym}
use Rattle.cell_tests.proofs.cells.evaluate.Goals as goal

pub eval-requires-clause-fits : goal.eval-requires-clause-fits
eval-requires-clause-fits g c = c.law_of_stores.ensures.cell c.args.circuit.now c.args.store.now c.args.n c.in_ok-cell.cell.now c.requires.valid c.requires.store (sym c.in_ok-cell.ensures.value)

pub eval_wide-requires-clause-fits : goal.eval_wide-requires-clause-fits
eval_wide-requires-clause-fits g c = c.law_of_stores.ensures.cell c.args.circuit.now c.args.store.now c.args.n c.in_ok-cell.cell.now c.requires.valid c.requires.store (sym c.in_ok-cell.ensures.value)
