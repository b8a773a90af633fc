use Rattle.std.proofs.Common.{◌≡◌, ℕ, ◌+◌, ◌-◌, ◌*◌}
use Rattle.rtlil_tree.specs.Sigs.{parts, parts_from, sig_within}
use Rattle.rtlil_tree.proofs.signal.+signal.Given as goal

abbrev pub decreases-braces_within : goal.decreases-braces_within
decreases-braces_within l = 4 * l.depth

abbrev pub decreases-part_within : goal.decreases-part_within
decreases-part_within l = 4 * l.depth + 1

abbrev pub decreases-sig_within : goal.decreases-sig_within
decreases-sig_within l = 4 * l.depth + 2

abbrev pub decreases-parts : goal.decreases-parts
decreases-parts l = 4 * l.depth + 3

abbrev pub invariant-parts-loop-turn : goal.invariant-parts-loop-turn
invariant-parts-loop-turn l = parts (sig_within l.depth) l.fn.cursor ≡ parts_from (sig_within l.depth) (l._turn-end - l._turn) l.found l.cursor
