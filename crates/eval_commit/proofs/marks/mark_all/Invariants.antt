use Rattle.eval_commit.specs.Marked.{AreMarkedToo}
use Rattle.eval_commit.proofs.marks.mark_all.Given as goal

abbrev pub invariant-loop-k : goal.invariant-loop-k
invariant-loop-k l = AreMarkedToo l.row l.k-index l.fn.marks l.marks
