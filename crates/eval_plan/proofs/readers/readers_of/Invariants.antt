use Rattle.std.proofs.Common.{◌≡◌, length}
use Rattle.eval_plan.specs.TableInvariants.{AreSeen}
use Rattle.eval_plan.proofs.readers.readers_of.Given as goal

abbrev pub invariant-loop-place : goal.invariant-loop-place
invariant-loop-place l = record {
  long : length l.notes.last.items ≡ length l.roots;
  seen : AreSeen l.circuit l.nodes l.holders.items l.place l.notes.entries.items l.notes.last.items;
}
