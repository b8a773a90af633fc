use Rattle.std.proofs.Common.{◌≡◌, ◌-◌}
use Rattle.rtlil_tree.specs.Sigs.{slices, slices_from}
use Rattle.rtlil_tree.proofs.signal.slices.Given as goal

abbrev pub invariant-loop-turn : goal.invariant-loop-turn
invariant-loop-turn l = slices l.fn.cursor ≡ slices_from (l._turn-end - l._turn) l.found l.cursor
