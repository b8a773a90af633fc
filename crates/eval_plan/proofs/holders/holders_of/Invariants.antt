use Rattle.std.proofs.Common.{◌≡◌, length}
use Rattle.eval_plan.specs.TableInvariants.{AreHolders}
use Rattle.eval_plan.proofs.holders.holders_of.Given as goal

abbrev pub invariant-loop-place : goal.invariant-loop-place
invariant-loop-place l = record {
  len : length l.holders.items ≡ l.numbering.bits;
  holders : AreHolders l.circuit l.roots l.place l.holders.items;
}
