-- Modules whose names differ: each is the first of its name.
use Rattle.std.proofs.Common.{◌≡◌, ℕ, zero, suc, List, [], ◌∷◌, ◌++◌, ◌||◌, Bool, true, false, not, cond, Some, None, bytes_eq, refl, sym, ap, subst, ◌∙◌}
use Rattle.std.specs.Prelude.{slice_get}
use Rattle.std.specs.List.{list_any}
use Rattle.std.proofs.lemmas.Bool.{or_parts}
use Rattle.std.proofs.lemmas.List.Folds.{list_any-append}
use Rattle.std.proofs.lemmas.Slice.Eq.{bytes_eq-Decides}
use Rattle.rtlil_tree.specs.declared.module.Module.{Module}
use Rattle.design_parts.specs.Parts.{first_fault}
use Rattle.design_top.specs.Names.{name_checks, second}
use Rattle.design_walk.specs.Modules.{module_named}

-- a module whose name is none of the earlier ones, and the modules behind it
first_checked : (earlier : List (List ℕ)) (m : Module) (ms : List Module) → first_fault (name_checks earlier (m ∷ ms)) ≡ None
    → (list_any (bytes_eq m.name) earlier ≡ false) × (first_fault (name_checks (earlier ++ m.name ∷ []) ms) ≡ None)
unfolding name_checks
first_checked earlier m ms h = by (list_any (bytes_eq m.name) earlier) refl h
  where
    by : (b : Bool) → list_any (bytes_eq m.name) earlier ≡ b → cond (not b) (first_fault (name_checks (earlier ++ m.name ∷ []) ms)) (Some (second m.name)) ≡ None
        → (list_any (bytes_eq m.name) earlier ≡ false) × (first_fault (name_checks (earlier ++ m.name ∷ []) ms) ≡ None)
    by true e k = absurd (let z : Some (second m.name) ≡ None = k in cc z)
    by false e k = (e, k)

same_name : (name : List ℕ) → bytes_eq name name ≡ true
same_name name = (bytes_eq-Decides name name).1 refl

-- a module among those whose names are checked, behind some names
first_of_name : (earlier : List (List ℕ)) (ms : List Module) (n : ℕ) (m : Module) → first_fault (name_checks earlier ms) ≡ None → slice_get ms n ≡ Some m
    → (list_any (bytes_eq m.name) earlier ≡ false) × (module_named ms m.name ≡ Some m)
first_of_name earlier [] n m h at = absurd (let z : None ≡ Some m = at in cc z)
first_of_name earlier (x ∷ xs) zero m h at =
    let same : x ≡ m = let z : Some x ≡ Some m = at in cc z in
    let free = (first_checked earlier x xs h).0 in (
      subst (λ (k : Module). list_any (bytes_eq k.name) earlier ≡ false) same free,
      subst (λ (k : Module). module_named (x ∷ xs) k.name ≡ Some k) same (ap (λ b. cond b (Some x) (module_named xs x.name)) (same_name x.name)),
    )
first_of_name earlier (x ∷ xs) (suc n) m h at =
    let behind = first_of_name (earlier ++ x.name ∷ []) xs n m (first_checked earlier x xs h).1 at in
    let apart = or_parts (list_any (bytes_eq m.name) earlier) (bytes_eq m.name x.name || false) (sym (list_any-append (bytes_eq m.name) earlier (x.name ∷ [])) ∙ behind.0) in
    (apart.0, ap (λ b. cond b (Some x) (module_named xs m.name)) (or_parts (bytes_eq m.name x.name) false apart.1).0 ∙ behind.1)

-- where no two names are the same
pub module_first : (ms : List Module) (n : ℕ) (m : Module) → first_fault (name_checks [] ms) ≡ None → slice_get ms n ≡ Some m → module_named ms m.name ≡ Some m
module_first ms n m h at = (first_of_name [] ms n m h at).1
