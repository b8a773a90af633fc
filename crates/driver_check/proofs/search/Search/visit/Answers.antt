use Rattle.std.proofs.Common.{◌≡◌, List, ◌++◌, ◌∷◌, [], set, sym, ap, ◌∙◌, subst, length-set}
use Rattle.driver_check.specs.Invariants.{IsSearch}
use Rattle.driver_check.specs.Search.{row_of}
use Rattle.driver_check.specs.declared.search.Frame.{Frame}
use Rattle.driver_check.specs.declared.search.Mark.TheVariants as mark
use Rattle.driver_check.proofs.Steps.{new_frame, newer_set, not_new, started}
use Rattle.driver_check.proofs.search.Search.visit.Goals as goal

pub turns-init : goal.turns-init
turns-init c =
    let marks = c.args.self.now.marks.items in
    let order = c.args.self.now.order.items in
    let v = c.args.vertex in
    let stack : c.push.new.self.items ≡ new_frame v ∷ [] = c.in_ok-push.ensures.items ∙ ap (λ (xs : List Frame). xs ++ new_frame v ∷ []) c.requires.empty in
    record {
      size = length-set marks v mark.Open;
      newer = newer_set marks v mark.Open (λ e. cc e);
      met = not_new marks v c.requires.new;
      search = subst (λ (xs : List Frame). IsSearch (row_of c.args.graph.now) (set marks v mark.Open) order xs) (sym stack)
          (started (row_of c.args.graph.now) marks order c.requires.search v c.requires.new);
    }
