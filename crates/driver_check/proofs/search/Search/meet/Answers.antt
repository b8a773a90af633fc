use Rattle.std.proofs.Common.{◌≡◌, ℕ, ◌+◌, List, length, sym, ap, ◌∙◌, subst, refl, inl, inr, Some, ◌<◌, ◌++◌, ◌∷◌, []}
use Rattle.std.specs.Prelude.{slice_get}
use Rattle.driver_check.specs.Search.{Has}
use Rattle.driver_check.specs.Invariants.{IsSearch, turns}
use Rattle.driver_check.specs.declared.search.Frame.{Frame}
use Rattle.driver_check.specs.declared.search.Mark.{Mark}
use Rattle.driver_check.specs.declared.search.Mark.TheVariants as mark
use Rattle.driver_check.proofs.Places.{last}
use Rattle.driver_check.proofs.Steps.{moved, one_more}
use Rattle.driver_check.proofs.Turns.{less_offset, turns_on}
use Rattle.driver_check.proofs.search.Search.meet.Goals as goal

pub returns-in_ok-push-in-Done-clause-search : goal.returns-in_ok-push-in-Done-clause-search
returns-in_ok-push-in-Done-clause-search c = λ rows s was at lt is.
    let f : Frame = c.args.frame in
    let rest = c.args.self.now.stack.items in
    let marks = c.args.self.now.marks.items in
    let next : Frame = record { vertex = f.vertex; span = f.span; offset = f.offset + 1 } in
    let read : slice_get c.deref.result.now c.args.vertex ≡ Some mark.Done = c.mark_of.ensures ∙ ap (λ (m : Mark). Some m) c.in-Done.is in
    let done : Has marks mark.Done c.args.vertex = subst (λ (xs : List Mark). slice_get xs c.args.vertex ≡ Some mark.Done) c.deref.ensures.value read in
    subst (λ (xs : List Frame). IsSearch rows marks c.args.self.now.order.items xs) (sym c.in_ok-push-in-Done.ensures.items)
    (moved rows marks c.args.self.now.order.items rest f was next refl
    (λ w seen. elim (one_more (rows f.vertex) f.span f.offset w s at seen) [
      | inl old ↦ was.seen (length rest) w f (last rest f) old
      | inr e ↦ subst (λ (x : ℕ). Has marks mark.Done x) (is ∙ sym e) done
    ]))

pub returns-in_ok-push-in-Done-clause-turns : goal.returns-in_ok-push-in-Done-clause-turns
returns-in_ok-push-in-Done-clause-turns c = λ rows s at lt.
    let f : Frame = c.args.frame in
    let rest = c.args.self.now.stack.items in
    let marks = c.args.self.now.marks.items in
    let next : Frame = record { vertex = f.vertex; span = f.span; offset = f.offset + 1 } in
    subst (λ (xs : List Frame). turns rows marks xs < turns rows marks (rest ++ f ∷ [])) (sym c.in_ok-push-in-Done.ensures.items)
    (turns_on rows marks rest f next (less_offset (rows f.vertex) f.span f.offset s at lt))
