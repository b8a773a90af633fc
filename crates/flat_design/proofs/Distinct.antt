-- Names that differ, from the first on.
use Rattle.std.proofs.Common.{◌≡◌, ℕ, ◌+◌, ◌<◌, ◌≤◌, List, length, map, drop, take, ◌-◌, get_or, sym, ◌∙◌, ap, Bool, true, false, not, ◌&&◌, arith}
use Rattle.std.specs.List.{list_any}
use Rattle.std.proofs.lemmas.List.{at_drop_more, at_drop_all}
use Rattle.std.proofs.lemmas.Grind.{common_steps}
use Rattle.flat_design.specs.Names.{same_name, are_distinct}

module _ {T : Type 0} (name : T → List ℕ) (xs : List T) (i : ℕ) (x : T) (within : i < length xs) (is : x ≡ get_or xs i x) (n : List ℕ) (named : n ≡ name x) (t : Bool) (asked : t ≡ list_any (same_name n) (map name (take (length xs - (i + 1)) (drop (i + 1) xs)))) (kept : are_distinct (map name (drop i xs)) ≡ are_distinct (map name xs)) where
  behind : take (length xs - (i + 1)) (drop (i + 1) xs) ≡ drop (i + 1) xs
  behind = grind (arith, common_steps)

  first : are_distinct (map name (drop i xs)) ≡ (not t && are_distinct (map name (drop (i + 1) xs)))
  unfolding are_distinct
  first =
      at_drop_more (λ ys. are_distinct (map name ys)) xs i x within
      ∙ ap (λ (y : T). not (list_any (same_name (name y)) (map name (drop (i + 1) xs))) && are_distinct (map name (drop (i + 1) xs))) (sym is)
      ∙ ap (λ (m : List ℕ). not (list_any (same_name m) (map name (drop (i + 1) xs))) && are_distinct (map name (drop (i + 1) xs))) (sym named)
      ∙ ap (λ (ys : List T). not (list_any (same_name n) (map name ys)) && are_distinct (map name (drop (i + 1) xs))) (sym behind)
      ∙ ap (λ (b : Bool). not b && are_distinct (map name (drop (i + 1) xs))) (sym asked)

  pub distinct_stop : t ≡ true → false ≡ are_distinct (map name xs)
  distinct_stop on = sym (sym kept ∙ first ∙ ap (λ (b : Bool). not b && are_distinct (map name (drop (i + 1) xs))) on)

  pub distinct_next : t ≡ false → are_distinct (map name (drop (i + 1) xs)) ≡ are_distinct (map name xs)
  distinct_next off = sym (ap (λ (b : Bool). not b && are_distinct (map name (drop (i + 1) xs))) off) ∙ sym first ∙ kept

pub distinct_all : {T : Type 0} (name : T → List ℕ) (xs : List T) (i : ℕ) → length xs ≤ i → are_distinct (map name (drop i xs)) ≡ are_distinct (map name xs) → true ≡ are_distinct (map name xs)
unfolding are_distinct
distinct_all name xs i past kept = sym (at_drop_all (λ ys. are_distinct (map name ys)) xs i past) ∙ kept
