-- A file up to the walk from its top.
use Rattle.std.proofs.Common.{◌≡◌, ℕ, List, [], Option, Some, None, sym, ap, subst, ◌∙◌}
use Rattle.std.specs.Prelude.{slice_get}
use Rattle.std.specs.Option.{option_and_then}
use Rattle.rtlil_tree.specs.declared.module.Module.{Module}
use Rattle.design_parts.specs.Parts.{Fails, Made, Walk, first_fault, guard, judged, run}
use Rattle.design_parts.specs.declared.refusal.Refusal.{Refusal}
use Rattle.design_parts.proofs.Runs.{guard_fails, guard_ok}
use Rattle.design_top.specs.Names.{name_checks}
use Rattle.design_top.specs.Tops.{top_checks, top_number}
use Rattle.elaborate.specs.Elaborated.{top_module, walk_from, walk_of, whole_walk}

module _ (ms : List Module) (name : Option (List ℕ)) (so_far : Made) where
  abbrev named : Walk
  named = guard (λ _. name_checks [] ms) (walk_from ms (top_module ms name))

  pub top_fails : (e : Refusal) → Fails e (judged (first_fault (top_checks ms name)) (tt {0})) → Fails e (run (whole_walk ms name) so_far)
  unfolding whole_walk
  top_fails e h = guard_fails (λ _. top_checks ms name) named so_far e h

  top_holds : first_fault (top_checks ms name) ≡ None → run (whole_walk ms name) so_far ≡ run named so_far
  unfolding whole_walk
  top_holds h = guard_ok (λ _. top_checks ms name) named so_far h

  pub names_fail : (e : Refusal) → first_fault (top_checks ms name) ≡ None → Fails e (judged (first_fault (name_checks [] ms)) (tt {0})) → Fails e (run (whole_walk ms name) so_far)
  names_fail e top h = subst (Fails e) (sym (top_holds top)) (guard_fails (λ _. name_checks [] ms) (walk_from ms (top_module ms name)) so_far e h)

  -- what is left where these checks hold
  pub walk_left : (n : ℕ) (m : Module) → first_fault (top_checks ms name) ≡ None → first_fault (name_checks [] ms) ≡ None → top_number ms name ≡ Some n → slice_get ms n ≡ Some m
      → run (whole_walk ms name) so_far ≡ run (walk_of ms m) so_far
  walk_left n m top names number at =
      top_holds top
      ∙ guard_ok (λ _. name_checks [] ms) (walk_from ms (top_module ms name)) so_far names
      ∙ ap (λ o. run (walk_from ms o) so_far) (ap (λ k. option_and_then (slice_get ms) k) number ∙ at)
