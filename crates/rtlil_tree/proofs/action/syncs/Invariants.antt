use Rattle.std.proofs.Common.{◌≡◌, ◌-◌}
use Rattle.rtlil_tree.specs.Input.{repeated, pure}
use Rattle.rtlil_tree.specs.Processes.{syncs, sync_part}
use Rattle.rtlil_tree.proofs.action.syncs.Given as goal

abbrev pub invariant-loop-turn : goal.invariant-loop-turn
invariant-loop-turn l = syncs l.fn.cursor ≡ repeated sync_part pure (l._turn-end - l._turn) l.found l.cursor
