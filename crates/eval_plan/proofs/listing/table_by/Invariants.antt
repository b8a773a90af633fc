use Rattle.eval_plan.specs.TableInvariants.{TakesFromRowBefore, AreEntries}
use Rattle.eval_plan.proofs.listing.table_by.Given as goal

abbrev pub invariant-loop-place : goal.invariant-loop-place
invariant-loop-place l = AreEntries (TakesFromRowBefore l.circuit l.kind l.roots l.place) l.entries.items
