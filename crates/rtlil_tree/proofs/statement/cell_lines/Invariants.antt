use Rattle.std.proofs.Common.{◌≡◌, ◌-◌}
use Rattle.rtlil_tree.specs.Input.{repeated, refuse}
use Rattle.rtlil_tree.specs.Statements.{cell_lines, cell_line}
use Rattle.rtlil_tree.proofs.statement.cell_lines.Given as goal

abbrev pub invariant-loop-turn : goal.invariant-loop-turn
invariant-loop-turn l = cell_lines l.fn.cell l.fn.cursor ≡ repeated cell_line (λ _. refuse) (l._turn-end - l._turn) l.cell l.cursor
