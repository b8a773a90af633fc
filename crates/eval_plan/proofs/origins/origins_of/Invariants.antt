use Rattle.std.proofs.Common.{◌≡◌, length}
use Rattle.eval_plan.specs.OrderInvariants.{AreOrigins}
use Rattle.eval_plan.proofs.origins.origins_of.Given as goal

abbrev pub invariant-loop-place : goal.invariant-loop-place
invariant-loop-place l = record {
  len : length l.origins.items ≡ l.sorting.numbering.bits;
  origins : AreOrigins l.circuit l.sorting.search.order.items l.place l.origins.items;
}
