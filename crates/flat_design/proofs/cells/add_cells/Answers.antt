use Rattle.std.proofs.Common.{◌≡◌, ◌∙◌, sym, arith, None, rules}
use Rattle.std.proofs.lemmas.Grind.{common_steps}
use Rattle.flat_design.specs.Cells.{with_cell}
use Rattle.flat_design.proofs.Loops.{cells_more, cells_none, cells_all}
use Rattle.flat_design.proofs.cells.add_cells.Goals as goal

pub returns-in_err-add_cell-clause-not_built : goal.returns-in_err-add_cell-clause-not_built
returns-in_err-add_cell-clause-not_built c = λ e.
    let none : with_cell c.args.wires.now c.loop-cell.circuit c.cell-item.result ≡ None = first_of (search rules, grind (arith, common_steps)) in
    sym c.loop-cell.invariant.so_far
    ∙ cells_none c.args.wires.now c.loop-cell.circuit c.args.cells.now c.loop-cell.cell-index c.cell-item.result (omega arith) c.cell-item.is none

pub loop-cell-preserved : goal.loop-cell-preserved
loop-cell-preserved c =
    let f = c.in_ok-add_cell.ensures in record {
      so_far =
          cells_more c.args.wires.now c.loop-cell.circuit c.args.cells.now c.loop-cell.cell-index c.cell-item.result (omega arith) c.cell-item.is c.add_cell.new.circuit f.ok
          ∙ c.loop-cell.invariant.so_far;
      adders = omega (arith, f.grown.0);
      registers = omega (arith, f.grown.1);
    }

pub returns-clause-ok : goal.returns-clause-ok
returns-clause-ok c =
    sym c.loop-cell.invariant.so_far ∙ cells_all c.args.wires.now c.loop-cell.circuit c.args.cells.now c.loop-cell.cell-index (omega arith)
