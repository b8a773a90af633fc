use Rattle.std.proofs.Common.{◌≡◌, ◌+◌, ◌-◌, ◌*◌}
use Rattle.rtlil_tree.specs.Input.{repeated, pure, refuse}
use Rattle.rtlil_tree.specs.Processes.{body, body_part, cases, switch_part, switch_within}
use Rattle.rtlil_tree.proofs.action.+action.Given as goal

abbrev pub decreases-switch_within : goal.decreases-switch_within
decreases-switch_within l = 8 * l.depth + 0

abbrev pub decreases-body_part : goal.decreases-body_part
decreases-body_part l = 8 * l.depth + 1

abbrev pub decreases-body : goal.decreases-body
decreases-body l = 8 * l.depth + 2

abbrev pub decreases-case : goal.decreases-case
decreases-case l = 8 * l.depth + 3

abbrev pub decreases-switch_part : goal.decreases-switch_part
decreases-switch_part l = 8 * l.depth + 4

abbrev pub decreases-cases : goal.decreases-cases
decreases-cases l = 8 * l.depth + 5

abbrev pub decreases-switch_with : goal.decreases-switch_with
decreases-switch_with l = 8 * l.depth + 6

abbrev pub invariant-body-loop-turn : goal.invariant-body-loop-turn
invariant-body-loop-turn l = body (switch_within l.depth) l.fn.cursor ≡ repeated (body_part (switch_within l.depth)) pure (l._turn-end - l._turn) l.found l.cursor

abbrev pub invariant-cases-loop-turn : goal.invariant-cases-loop-turn
invariant-cases-loop-turn l = cases (switch_within l.depth) l.fn.cursor ≡ repeated (switch_part (switch_within l.depth)) (λ _. refuse) (l._turn-end - l._turn) l.found l.cursor
