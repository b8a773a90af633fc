use Rattle.std.proofs.Common.{refl}
use Rattle.std.specs.Prelude.{slice_index}
use Rattle.eval_plan.proofs.Noting.{bit_held}
use Rattle.std.proofs.lemmas.Result.{on_ok_weaker}
use Rattle.eval_plan.proofs.notes.Notes.note_bit.Goals as goal

pub returns-clause-grows : goal.returns-clause-grows
returns-clause-grows c =
    let was = c.args.self.now.entries.items in
    let now = c.note.new.self.entries.items in
    on_ok_weaker c.note.result (bit_held c.args.holders.now c.args.number c.args.value was now (slice_index c.args.holders.now c.args.number) refl (λ e. c.if-root.false e)) c.note.ensures.grows
