use Rattle.std.proofs.Common.{◌≡◌, ◌*◌, ◌-◌, ◌≤◌}
use Rattle.dirty_set.specs.Tree.{first_place}
use Rattle.dirty_set.proofs.set.DirtySet.new.Given as goal

abbrev pub invariant-loop-first : goal.invariant-loop-first
invariant-loop-first l = record {
  leaves : l.first ≡ first_place l.depth;
  few : l.first ≤ 2 * l.leaves;
  levels : l.depth ≤ l.first;
}

abbrev pub decreases-loop-first : goal.decreases-loop-first
decreases-loop-first l = l.leaves - l.first
