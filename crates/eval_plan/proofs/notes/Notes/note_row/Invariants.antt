use Rattle.std.proofs.Common.{◌≡◌, length, take}
use Rattle.eval_plan.specs.TableInvariants.{AreNoted, Grows, Noted}
use Rattle.driver_check.specs.Search.{Needs}
use Rattle.eval_plan.proofs.notes.Notes.note_row.Given as goal

abbrev pub invariant-loop-span : goal.invariant-loop-span
invariant-loop-span l = record {
  long : length l.self.last.items ≡ length l.fn.self.last.items;
  noted : AreNoted l.self.entries.items l.self.last.items l.value;
  grows : Grows l.fn.self.entries.items l.self.entries.items (Noted (Needs (take l.span-index l.row)) l.holders l.value);
}
