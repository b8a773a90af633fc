use Rattle.std.proofs.Common.{◌≡◌, ℕ, ◌<◌, List, length, take, ◌∙◌, subst, arith, get_or, Some}
use Rattle.std.specs.Prelude.{slice_get}
use Rattle.std.proofs.lemmas.List.{take_all}
use Rattle.eval_plan.specs.TableInvariants.{Grows, Noted}
use Rattle.driver_check.specs.Search.{Needs}
use Rattle.driver_check.specs.declared.graph.Span.{Span}
use Rattle.eval_plan.proofs.Noting.{row_more}
use Rattle.eval_plan.proofs.Tabled.{got}
use Rattle.eval_plan.proofs.notes.Notes.note_row.Goals as goal

-- the span at a place of a row
there : (row : List Span) (i : ℕ) → i < length row → slice_get row i ≡ Some (get_or row i (record { first = 0; width = 0 }))
there row i lt = got row i (record { first = 0; width = 0 }) lt

pub note_span-requires-clause-there : goal.note_span-requires-clause-there
note_span-requires-clause-there c = λ w h.
    let i = c.loop-span.span-index in
    let row = c.args.row.now in
    c.requires.there w (i, get_or row i (record { first = 0; width = 0 }), there row i c.loop-span-test.true, h.0, h.1)

pub loop-span-preserved : goal.loop-span-preserved
loop-span-preserved c =
    let i = c.loop-span.span-index in
    let row = c.args.row.now in
    record {
      long = c.note_span.ensures.long ∙ c.loop-span.invariant.long;
      noted = c.in_ok-note_span.ensures.noted;
      grows = row_more row i (get_or row i (record { first = 0; width = 0 })) (there row i c.loop-span-test.true) c.args.holders.now c.args.value c.args.self.now.entries.items c.loop-span.self.entries.items c.note_span.new.self.entries.items c.loop-span.invariant.grows c.in_ok-note_span.ensures.grows;
    }

pub returns-clause-grows : goal.returns-clause-grows
returns-clause-grows c =
    let end : take c.loop-span.span-index c.args.row.now ≡ c.args.row.now = take_all c.loop-span.span-index c.args.row.now (omega arith) in
    subst (λ (l : List Span). Grows c.args.self.now.entries.items c.loop-span.self.entries.items (Noted (Needs l) c.args.holders.now c.args.value)) end c.loop-span.invariant.grows
