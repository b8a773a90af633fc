use Rattle.std.proofs.Common.{◌≡◌, length}
use Rattle.eval_plan.specs.TableInvariants.{AreNoted, Grows, Noted}
use Rattle.driver_check.specs.Numbers.{IsIn}
use Rattle.eval_plan.proofs.notes.Notes.note_span.Given as goal

abbrev pub invariant-loop-at : goal.invariant-loop-at
invariant-loop-at l = record {
  long : length l.self.last.items ≡ length l.fn.self.last.items;
  noted : AreNoted l.self.entries.items l.self.last.items l.value;
  grows : Grows l.fn.self.entries.items l.self.entries.items (Noted (IsIn l.span.first l.at) l.holders l.value);
}
