use Rattle.dirty_set.proofs.Descent.{IsLeastAt}
use Rattle.dirty_set.proofs.tree.least_leaf.Given as goal

abbrev pub invariant-loop-level : goal.invariant-loop-level
invariant-loop-level l = IsLeastAt l._level l.place l.words
