use Rattle.std.proofs.Common.{◌≡◌, ℕ, List, ◌++◌, ◌∷◌, ◌⊎◌, [], sym, ◌∙◌, subst, Some, ◌<◌, inl, inr}
use Rattle.std.specs.Prelude.{slice_get}
use Rattle.driver_check.specs.Search.{Has}
use Rattle.driver_check.specs.Invariants.{IsSearch, IsNoNewer, turns}
use Rattle.driver_check.specs.declared.search.Frame.{Frame}
use Rattle.driver_check.specs.declared.search.Mark.TheVariants as mark
use Rattle.driver_check.proofs.Steps.{unwound}
use Rattle.driver_check.proofs.Turns.{turns_end}
use Rattle.driver_check.proofs.search.Search.give_up.Goals as goal

pub returns-clause-search : goal.returns-clause-search
returns-clause-search c = λ rows w was need why.
    let marks = c.args.self.now.marks.items in
    let after = c.mark_stuck.new.marks.items in
    let stack : c.deref.result.now ≡ c.args.self.now.stack.items ++ c.args.frame ∷ [] = c.deref.ensures.value ∙ c.in_ok-push.ensures.items in
    subst (λ (xs : List Frame). IsSearch rows after c.args.self.now.order.items xs) (sym c.clear.ensures.items)
    (unwound rows marks c.args.self.now.order.items c.args.self.now.stack.items c.args.frame was w need why after
    (subst (λ (xs : List Frame). (k : ℕ) (g : Frame) → slice_get xs k ≡ Some g → Has after mark.Stuck g.vertex) stack c.mark_stuck.ensures.all)
    c.mark_stuck.ensures.others
    (subst (λ (xs : List Frame). (v : ℕ) → Has after mark.Stuck v → Has marks mark.Stuck v ⊎ ((k : ℕ) × (g : Frame) × (slice_get xs k ≡ Some g) × (g.vertex ≡ v))) stack c.mark_stuck.ensures.only))

pub returns-clause-turns : goal.returns-clause-turns
returns-clause-turns c = λ rows.
    let marks = c.args.self.now.marks.items in
    let after = c.mark_stuck.new.marks.items in
    let stack = c.args.self.now.stack.items in
    let newer : IsNoNewer marks after = λ v h. elim (c.mark_stuck.ensures.others v) [
      | inl s ↦ absurd (let e : Some mark.Stuck ≡ Some mark.New = sym s ∙ h in cc e)
      | inr e ↦ sym e ∙ h
    ] in
    subst (λ (xs : List Frame). turns rows after xs < turns rows marks (stack ++ c.args.frame ∷ [])) (sym c.clear.ensures.items)
    (turns_end rows marks after stack c.args.frame c.mark_stuck.ensures.size newer)
