-- Tables that tell the first place of each key in a list, key by key.
use Rattle.std.proofs.Common.{◌≡◌, ℕ, ◌+◌, ◌<◌, Bool, true, false, cond, ltb, map, bytes_eq, nat_eq, List, [], ◌∷◌, ◌++◌, length, get_or, take, refl, sym, ◌∙◌, ap, subst, arith, inl, inr, Option, Some, None}
use Rattle.std.specs.Prelude.{not, position}
use Rattle.std.specs.List.{position_or_len}
use Rattle.std.specs.Map.{lookup}
use Rattle.std.specs.Option.{option_map, is_some}
use Rattle.std.proofs.lemmas.Bool.{cond-true, cond-false, lt-ltb, le-ltb, cases_lt, eqb-true}
use Rattle.std.proofs.lemmas.List.{take_more, length-take, length-map, get_or-map}
use Rattle.std.proofs.lemmas.Slice.Eq.{bytes_eq-Decides}
use Rattle.circuit.specs.declared.item.Item.{Item}
use Rattle.stimulus.specs.Inputs.{TellsPlaces, item_names}

abbrev or_else : {X : Type 0} → Option X → Option X → Option X
or_else None y = y
or_else (Some x) y = Some x

or_none : {X : Type 0} (o : Option X) → or_else o None ≡ o
or_none None = refl
or_none (Some x) = refl

or_some : {X : Type 0} (o y : Option X) → is_some o ≡ true → o ≡ or_else o y
or_some None y e = cc e
or_some (Some x) y e = refl

abbrev more : ℕ → ℕ
more n = 1 + n

-- the place of the first that passes, by recursion
abbrev found : {K : Type 0} → (K → Bool) → List K → Option ℕ
found t [] = None
found t (x ∷ xs) = cond (t x) (Some 0) (option_map more (found t xs))

module _ {K : Type 0} (t : K → Bool) where
  next_place : (n len : ℕ) → cond (ltb (1 + n) (1 + len)) (Some (1 + n)) None ≡ option_map more (cond (ltb n len) (Some n) None)
  next_place n len = elim (cases_lt n len) [
    | inl lt ↦
        cond-true (ltb (1 + n) (1 + len)) (Some (1 + n)) None (lt-ltb (1 + n) (1 + len) (omega arith))
        ∙ sym (ap (option_map more) (cond-true (ltb n len) (Some n) None (lt-ltb n len lt)))
    | inr le ↦
        cond-false (ltb (1 + n) (1 + len)) (Some (1 + n)) None (le-ltb (1 + n) (1 + len) (omega arith))
        ∙ sym (ap (option_map more) (cond-false (ltb n len) (Some n) None (le-ltb n len le)))
  ]

  position_is : (xs : List K) → position t xs ≡ found t xs
  position_is [] = refl
  position_is (x ∷ xs) =
      elim (t x) as (λ b. cond (ltb (cond (not b) (1 + position_or_len t xs) 0) (length (x ∷ xs))) (Some (cond (not b) (1 + position_or_len t xs) 0)) None ≡ cond b (Some 0) (option_map more (found t xs))) [
        | true ↦ cond-true (ltb 0 (length (x ∷ xs))) (Some 0) None (lt-ltb 0 (length (x ∷ xs)) (omega arith))
        | false ↦ ap (λ len. cond (ltb (1 + position_or_len t xs) len) (Some (1 + position_or_len t xs)) None) (let e : length (x ∷ xs) ≡ 1 + length xs = omega arith in e)
            ∙ next_place (position_or_len t xs) (length xs) ∙ ap (option_map more) (position_is xs)
      ]

  map_or : (o : Option ℕ) (b : Bool) (n : ℕ) → option_map more (or_else o (cond b (Some n) None)) ≡ or_else (option_map more o) (cond b (Some (1 + n)) None)
  map_or None true n = refl
  map_or None false n = refl
  map_or (Some x) b n = refl

  found_behind : (xs : List K) (k : K) → found t (xs ++ k ∷ []) ≡ or_else (found t xs) (cond (t k) (Some (length xs)) None)
  found_behind [] k = refl
  found_behind (x ∷ xs) k =
      elim (t x) as (λ b. cond b (Some 0) (option_map more (found t (xs ++ k ∷ []))) ≡ or_else (cond b (Some 0) (option_map more (found t xs))) (cond (t k) (Some (length (x ∷ xs))) None)) [
        | true ↦ refl
        | false ↦ ap (option_map more) (found_behind xs k) ∙ map_or (found t xs) (t k) (length xs)
            ∙ ap (λ len. or_else (option_map more (found t xs)) (cond (t k) (Some len) None)) (let e : 1 + length xs ≡ length (x ∷ xs) = omega arith in e)
      ]

  lookup_behind : (es : List (K × ℕ)) (k : K) (v : ℕ) → lookup t (es ++ (k, v) ∷ []) ≡ or_else (lookup t es) (cond (t k) (Some v) None)
  lookup_behind [] k v = refl
  lookup_behind (e ∷ es) k v =
      elim (t e.0) as (λ b. cond b (Some e.1) (lookup t (es ++ (k, v) ∷ [])) ≡ or_else (cond b (Some e.1) (lookup t es)) (cond (t k) (Some v) None)) [
        | true ↦ refl
        | false ↦ lookup_behind es k v
      ]

module _ {K : Type 0} (eq : K → K → Bool) (keys : List K) (k : K) (places : List (K × ℕ)) (tells : TellsPlaces eq keys places) where
  told : (q : K) → or_else (lookup (eq q) places) (cond (eq q k) (Some (length keys)) None) ≡ position (eq q) (keys ++ k ∷ [])
  told q =
      ap (λ o. or_else o (cond (eq q k) (Some (length keys)) None)) (tells q ∙ position_is (eq q) keys)
      ∙ sym (found_behind (eq q) keys k) ∙ sym (position_is (eq q) (keys ++ k ∷ []))

  -- a key that is added behind the others
  tells_new : TellsPlaces eq (keys ++ k ∷ []) (places ++ (k, length keys) ∷ [])
  tells_new q = lookup_behind (eq q) places k (length keys) ∙ told q

  -- a key that is there
  tells_old : ((q : K) → eq q k ≡ true → q ≡ k) → is_some (lookup (eq k) places) ≡ true → TellsPlaces eq (keys ++ k ∷ []) places
  tells_old same there q = by_test (eq q k) refl ∙ told q
    where
      by_test : (b : Bool) → eq q k ≡ b → lookup (eq q) places ≡ or_else (lookup (eq q) places) (cond (eq q k) (Some (length keys)) None)
      by_test true e = or_some (lookup (eq q) places) (cond (eq q k) (Some (length keys)) None) (subst (λ x. is_some (lookup (eq x) places) ≡ true) (sym (same q e)) there)
      by_test false e = sym (ap (λ b. or_else (lookup (eq q) places) (cond b (Some (length keys)) None)) e ∙ or_none (lookup (eq q) places))

-- one key more, which is added with its place unless it is there
pub tells_more : {K : Type 0} (eq : K → K → Bool) → ((x y : K) → eq x y ≡ true → x ≡ y) → (keys : List K) (i : ℕ) (d k : K) (places new : List (K × ℕ)) → i < length keys → get_or keys i d ≡ k → TellsPlaces eq (take i keys) places
    → new ≡ cond (is_some (lookup (eq k) places)) places (places ++ (k, i) ∷ []) → TellsPlaces eq (take (i + 1) keys) new
tells_more {K} eq same keys i d k places new below is tells added =
    subst (λ ks. TellsPlaces eq ks new) (sym (take_more keys i d below ∙ ap (λ x. take i keys ++ x ∷ []) is))
    (by_test (is_some (lookup (eq k) places)) refl added)
  where
    long : length (take i keys) ≡ i
    long = length-take i keys ∙ omega arith

    by_test : (b : Bool) → is_some (lookup (eq k) places) ≡ b → new ≡ cond b places (places ++ (k, i) ∷ []) → TellsPlaces eq (take i keys ++ k ∷ []) new
    by_test true there e = subst (TellsPlaces eq (take i keys ++ k ∷ [])) (sym e) (tells_old eq (take i keys) k places tells (λ q t. same q k t) there)
    by_test false there e = subst (TellsPlaces eq (take i keys ++ k ∷ [])) (sym e) (subst (λ n. TellsPlaces eq (take i keys ++ k ∷ []) (places ++ (k, n) ∷ [])) long (tells_new eq (take i keys) k places tells))

same_bytes : (x y : List ℕ) → bytes_eq x y ≡ true → x ≡ y
same_bytes x y e = (bytes_eq-Decides x y).0 e

same_number : (x y : ℕ) → nat_eq x y ≡ true → x ≡ y
same_number x y e = eqb-true x y e

-- the name of an item, which a table of names takes unless it is there
pub added_names : (items : List Item) (i : ℕ) (item : Item) (name : List ℕ) (places new : List (List ℕ × ℕ)) (added : Bool) → i < length items → name ≡ (get_or items i item).name
    → TellsPlaces bytes_eq (take i (item_names items)) places → added ≡ not (is_some (lookup (bytes_eq name) places)) → new ≡ cond added (places ++ (name, i) ∷ []) places
    → TellsPlaces bytes_eq (take (i + 1) (item_names items)) new
added_names items i item name places new added below named tells test made =
    tells_more bytes_eq same_bytes (item_names items) i name name places new
    (let l = length-map items (λ (x : Item). x.name) in omega arith)
    (get_or-map (λ (x : Item). x.name) items i item name below ∙ sym named)
    tells (made ∙ ap (λ b. cond b (places ++ (name, i) ∷ []) places) test ∙ turned (is_some (lookup (bytes_eq name) places)))
  where
    turned : (b : Bool) → cond (not b) (places ++ (name, i) ∷ []) places ≡ cond b places (places ++ (name, i) ∷ [])
    turned true = refl
    turned false = refl

pub added_nets : (nets : List ℕ) (i : ℕ) (places new : List (ℕ × ℕ)) → i < length nets → TellsPlaces nat_eq (take i nets) places
    → new ≡ cond (is_some (lookup (nat_eq (get_or nets i 0)) places)) places (places ++ (get_or nets i 0, i) ∷ []) → TellsPlaces nat_eq (take (i + 1) nets) new
added_nets nets i places new below tells made = tells_more nat_eq same_number nets i 0 (get_or nets i 0) places new below refl tells made

pub absent : {X : Type 0} (o : Option X) → is_some o ≡ false → o ≡ None
absent None e = refl
absent (Some x) e = cc e
