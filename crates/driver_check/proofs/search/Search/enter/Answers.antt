use Rattle.std.proofs.Common.{◌≡◌, List, ◌++◌, ◌∷◌, [], set, sym, ap, ◌∙◌, subst, ◌<◌, refl}
use Rattle.driver_check.specs.Invariants.{IsSearch, turns}
use Rattle.driver_check.specs.declared.search.Frame.{Frame}
use Rattle.driver_check.specs.declared.search.Mark.TheVariants as mark
use Rattle.driver_check.proofs.Steps.{grown, new_frame}
use Rattle.driver_check.proofs.Turns.{turns_in}
use Rattle.driver_check.proofs.search.Search.enter.Goals as goal

pub returns-clause-search : goal.returns-clause-search
returns-clause-search c = λ rows was need new.
    let stack : c.push-2.new.self.items ≡ c.args.self.now.stack.items ++ c.args.frame ∷ [] ++ new_frame c.args.vertex ∷ [] =
    c.in_ok-push-2.ensures.items ∙ ap (λ (xs : List Frame). xs ++ new_frame c.args.vertex ∷ []) c.in_ok-push.ensures.items in
    subst (λ (xs : List Frame). IsSearch rows (set c.args.self.now.marks.items c.args.vertex mark.Open) c.args.self.now.order.items xs) (sym stack)
    (grown rows c.args.self.now.marks.items c.args.self.now.order.items c.args.self.now.stack.items c.args.frame was c.args.vertex need new)

pub returns-clause-turns : goal.returns-clause-turns
returns-clause-turns c = λ rows new.
    let marks = c.args.self.now.marks.items in
    let rest = c.args.self.now.stack.items ++ c.args.frame ∷ [] in
    let stack : c.push-2.new.self.items ≡ rest ++ new_frame c.args.vertex ∷ [] =
    c.in_ok-push-2.ensures.items ∙ ap (λ (xs : List Frame). xs ++ new_frame c.args.vertex ∷ []) c.in_ok-push.ensures.items in
    subst (λ (xs : List Frame). turns rows (set marks c.args.vertex mark.Open) xs < turns rows marks rest) (sym stack)
    (turns_in rows marks rest c.args.vertex (new_frame c.args.vertex) refl refl refl new)
