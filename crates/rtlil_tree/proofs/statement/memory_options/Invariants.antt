use Rattle.std.proofs.Common.{◌≡◌, ◌-◌}
use Rattle.rtlil_tree.specs.Input.{repeated, pure}
use Rattle.rtlil_tree.specs.Statements.{memory_options, memory_option}
use Rattle.rtlil_tree.proofs.statement.memory_options.Given as goal

abbrev pub invariant-loop-turn : goal.invariant-loop-turn
invariant-loop-turn l = memory_options l.fn.cursor ≡ repeated memory_option pure (l._turn-end - l._turn) l.options l.cursor
