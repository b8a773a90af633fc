use Rattle.std.proofs.Common.{◌≡◌, ◌-◌}
use Rattle.rtlil_tree.specs.Input.{repeated, pure}
use Rattle.rtlil_tree.specs.Processes.{updates, sync_line}
use Rattle.rtlil_tree.proofs.action.updates.Given as goal

abbrev pub invariant-loop-turn : goal.invariant-loop-turn
invariant-loop-turn l = updates l.fn.cursor ≡ repeated sync_line pure (l._turn-end - l._turn) l.found l.cursor
