use Rattle.std.proofs.Common.{◌≡◌, List, set, sym, ◌∙◌, subst}
use Rattle.std.specs.Prelude.{slice_index}
use Rattle.std.proofs.lemmas.List.{get_or_read}
use Rattle.eval_plan.specs.TableInvariants.{AreNoted, Grows}
use Rattle.eval_plan.specs.declared.entries.Entry.{Entry}
use Rattle.eval_plan.proofs.Noting.{grows_one, noted_one}
use Rattle.eval_plan.proofs.notes.Notes.note.Goals as goal

pub returns-in_ok-push-clause-noted : goal.returns-in_ok-push-clause-noted
returns-in_ok-push-clause-noted c =
    let lasts = c.args.self.now.last.items in
    let was : c.index.result.now ≡ slice_index lasts c.args.row = get_or_read lasts c.args.row c.index.result.now c.requires.row c.index.ensures 0 in
    subst (λ (es : List Entry). AreNoted es (set lasts c.args.row c.args.value) c.args.value) (sym c.in_ok-push.ensures.items)
    (noted_one c.args.self.now.entries.items lasts c.args.row c.args.value c.requires.noted c.requires.row (λ e. c.if-index-value.true (was ∙ e)))

pub returns-in_ok-push-clause-grows : goal.returns-in_ok-push-clause-grows
returns-in_ok-push-clause-grows c =
    subst (λ (es : List Entry). Grows c.args.self.now.entries.items es (λ r k. (r ≡ c.args.row) × (k ≡ c.args.value))) (sym c.in_ok-push.ensures.items)
    (grows_one c.args.self.now.entries.items c.args.self.now.last.items c.args.row c.args.value c.requires.noted c.requires.row)
