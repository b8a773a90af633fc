use Rattle.std.proofs.Common.{◌≡◌, ◌-◌}
use Rattle.rtlil_tree.specs.Input.{repeated, pure}
use Rattle.rtlil_tree.specs.Statements.{wire_options, wire_option}
use Rattle.rtlil_tree.proofs.statement.wire_options.Given as goal

abbrev pub invariant-loop-turn : goal.invariant-loop-turn
invariant-loop-turn l = wire_options l.fn.cursor ≡ repeated wire_option pure (l._turn-end - l._turn) l.options l.cursor
