use Rattle.std.proofs.Common.{ℕ, List, [], ◌∷◌, ◌++◌, None, Ok, ap, sym, ◌∙◌}
use Rattle.circuit.specs.declared.item.Scope.{Scope as Shown}
use Rattle.design_parts.specs.Parts.{Made}
use Rattle.design_walk.specs.Instances.{scope_of_instance}
use Rattle.design_walk.proofs.Arrivals.{top_entered_ok}
use Rattle.design_walk.proofs.scopes.enter_top.Goals as goal

pub returns : goal.returns
returns c =
    let old = c.args.draft.now in
    top_entered_ok c.args.unit.now old
    ∙ ap Ok (sym (c.in_ok-push_scope.ensures ∙ ap (λ (s : Shown). let new : Made = record old { scopes = old.scopes ++ s ∷ [] } in new) (c.in_ok-scope_of_instance.ensures ∙ ap (λ (name : List ℕ). scope_of_instance name c.args.unit.now None) (c.new-name.ensures ∙ c.new.ensures.items))))
