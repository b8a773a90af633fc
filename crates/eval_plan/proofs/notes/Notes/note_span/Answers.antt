use Rattle.std.proofs.Common.{◌≡◌, ℕ, ◌∙◌, subst, arith}
use Rattle.eval_plan.specs.TableInvariants.{Grows, Noted}
use Rattle.driver_check.specs.Numbers.{IsIn}
use Rattle.eval_plan.proofs.Noting.{span_more}
use Rattle.eval_plan.proofs.notes.Notes.note_span.Goals as goal

pub loop-at-preserved : goal.loop-at-preserved
loop-at-preserved c = record {
  long = c.note_bit.ensures.long ∙ c.loop-at.invariant.long;
  noted = c.in_ok-note_bit.ensures.noted;
  grows = span_more c.args.span.first c.loop-at.at c.args.holders.now c.args.value c.args.self.now.entries.items c.loop-at.self.entries.items c.note_bit.new.self.entries.items c.loop-at.invariant.grows c.in_ok-note_bit.ensures.grows;
}

pub returns-clause-grows : goal.returns-clause-grows
returns-clause-grows c =
    let end : c.loop-at.at ≡ c.args.span.width = omega arith in
    subst (λ (n : ℕ). Grows c.args.self.now.entries.items c.loop-at.self.entries.items (Noted (IsIn c.args.span.first n) c.args.holders.now c.args.value)) end c.loop-at.invariant.grows
