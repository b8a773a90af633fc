-- The module from which a file is walked.
use Rattle.std.proofs.Common.{◌≡◌, ℕ, ◌+◌, ◌<◌, ◌≤◌, ◌==◌, not, cond, List, [], ◌∷◌, length, get_or, Bool, true, false, Option, Some, None, Ok, refl, sym, ap, ◌∙◌, arith}
use Rattle.std.specs.Prelude.{nat_lt, slice_get}
use Rattle.std.specs.List.{list_all}
use Rattle.std.specs.Option.{option_and_then}
use Rattle.std.proofs.lemmas.Bool.{and_from, eqb-true, lt-ltb, ltb-true}
use Rattle.std.proofs.lemmas.Option.{slice_get-get_or}
use Rattle.circuit.proofs.Grown.{all_at}
use Rattle.rtlil_tree.specs.declared.module.Module.{Module}
use Rattle.design_parts.specs.Parts.{Made, first_fault, guard, none_made, run}
use Rattle.design_top.specs.Names.{name_checks}
use Rattle.design_top.specs.Tops.{candidates, has_name, is_marked, marked_or_only, numbers_of, top_checks, top_number}
use Rattle.design_valid.proofs.Keeping.{holds_at, run_guarded}
use Rattle.elaborate.specs.Elaborated.{top_module, walk_from, walk_of, whole_made, whole_walk}

-- ---- numbers of modules are places of modules

below_all : (test : Module → Bool) (n bound : ℕ) (ms : List Module) → n + length ms ≤ bound → list_all (λ k. nat_lt k bound) (numbers_of test n ms) ≡ true
unfolding numbers_of
below_all test n bound [] le = refl
below_all test n bound (m ∷ ms) le = by (test m) (below_all test (n + 1) bound ms (omega (arith, le)))
  where
    by : (b : Bool) → list_all (λ k. nat_lt k bound) (numbers_of test (n + 1) ms) ≡ true → list_all (λ k. nat_lt k bound) (cond b (n ∷ numbers_of test (n + 1) ms) (numbers_of test (n + 1) ms)) ≡ true
    by true h = and_from (nat_lt n bound) (list_all (λ k. nat_lt k bound) (numbers_of test (n + 1) ms)) (lt-ltb n bound (omega (arith, le))) h
    by false h = h

one_below : (ns : List ℕ) (count : ℕ) → list_all (λ k. nat_lt k count) ns ≡ true → list_all (λ k. nat_lt k count) (marked_or_only ns count) ≡ true
one_below (n ∷ ns) count h = h
one_below [] count h = by (count == 1) refl
  where
    by : (b : Bool) → (count == 1) ≡ b → list_all (λ k. nat_lt k count) (cond b (0 ∷ []) []) ≡ true
    by true e = let one : count ≡ 1 = eqb-true count 1 e in and_from (nat_lt 0 count) true (lt-ltb 0 count (omega (arith, one))) refl
    by false e = refl

all_below : (ms : List Module) (name : Option (List ℕ)) → list_all (λ k. nat_lt k (length ms)) (candidates ms name) ≡ true
all_below ms (Some name) = below_all (has_name name) 0 (length ms) ms (omega arith)
all_below ms None = one_below (numbers_of is_marked 0 ms) (length ms) (below_all is_marked 0 (length ms) ms (omega arith))

-- ---- the top

some_first : (ns : List ℕ) → not (length ns == 0) ≡ true → (n : ℕ) × (slice_get ns 0 ≡ Some n)
some_first [] h = cc h
some_first (n ∷ ns) h = (n, refl)

no_gap : (ms : List Module) (n : ℕ) → n < length ms → slice_get ms n ≡ None → ⊥
no_gap [] n lt e = omega (arith, lt)
no_gap (m ∷ ms) n lt e = let there = slice_get-get_or (m ∷ ms) n m lt in let no : Some (get_or (m ∷ ms) n m) ≡ None = sym there ∙ e in cc no

module _ (ms : List Module) (name : Option (List ℕ)) where
  top_there : first_fault (top_checks ms name) ≡ None → (top : Module) × (n : ℕ) × (slice_get ms n ≡ Some top) × (top_module ms name ≡ Some top)
  unfolding top_checks
  top_there h =
      let first = some_first (candidates ms name) (holds_at (top_checks ms name) 0 _ h refl) in
      let within : first.0 < length ms = ltb-true first.0 (length ms) (all_at (λ k. nat_lt k (length ms)) (candidates ms name) (all_below ms name) 0 first.0 first.1) in
      by (slice_get ms first.0) refl within first.1
    where
      by : {n : ℕ} → (o : Option Module) → slice_get ms n ≡ o → n < length ms → top_number ms name ≡ Some n → (top : Module) × (k : ℕ) × (slice_get ms k ≡ Some top) × (top_module ms name ≡ Some top)
      by {n} (Some top) at within is = (top, n, at, ap (option_and_then (slice_get ms)) is ∙ at)
      by {n} None at within is = absurd (no_gap ms n within at)

  -- what the file gives is what is walked from a module of it
  pub top_walked : (m : Made) → whole_made ms name ≡ Ok m → (top : Module) × (n : ℕ) × (slice_get ms n ≡ Some top) × (run (walk_of ms top) none_made ≡ Ok m)
  unfolding whole_walk
  top_walked m e =
      let named = guard (λ _. name_checks [] ms) (walk_from ms (top_module ms name)) in
      let first = run_guarded (λ _. top_checks ms name) named none_made m e in
      let second = run_guarded (λ _. name_checks [] ms) (walk_from ms (top_module ms name)) none_made m first.1 in
      let there = top_there first.0 in
      (there.0, there.1, there.2, ap (λ (o : Option Module). run (walk_from ms o) none_made) (sym there.3) ∙ second.1)
