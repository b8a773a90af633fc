use Rattle.std.proofs.Common.{◌≡◌, ◌-◌}
use Rattle.rtlil_tree.specs.Input.{repeated, pure}
use Rattle.rtlil_tree.specs.Processes.{sigs_from, further}
use Rattle.rtlil_tree.proofs.action.sigs_from.Given as goal

abbrev pub invariant-loop-turn : goal.invariant-loop-turn
invariant-loop-turn l = sigs_from l.fn.found l.fn.cursor ≡ repeated further pure (l._turn-end - l._turn) l.found l.cursor
