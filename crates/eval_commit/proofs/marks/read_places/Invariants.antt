use Rattle.eval_commit.specs.Marked.{AreReadPlacesBelow}
use Rattle.eval_commit.proofs.marks.read_places.Given as goal

abbrev pub invariant-loop-k : goal.invariant-loop-k
invariant-loop-k l = AreReadPlacesBelow l.nodes l.k l.places.items
