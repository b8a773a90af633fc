-- Flags of modules, one of which is set or cleared.
use Rattle.std.proofs.Common.{◌≡◌, ℕ, ◌<◌, ◌≢◌, ◌||◌, Bool, true, false, List, [], ◌∷◌, ◌++◌, length, set, replicate, Some, bytes_eq, refl, sym, ap, subst, ◌∙◌, inl, inr, arith, length-set}
use Rattle.std.specs.List.{list_any, slice_get}
use Rattle.std.proofs.lemmas.Bool.{cases_eq}
use Rattle.std.proofs.lemmas.List.{get_or-set_same, get_or-set_other, get_or-replicate, length-replicate}
use Rattle.std.proofs.lemmas.List.Folds.{list_any-append}
use Rattle.std.proofs.lemmas.Option.{same_Some, slice_get-get_or}
use Rattle.std.proofs.lemmas.Slice.Eq.{bytes_eq-Decides}
use Rattle.rtlil_tree.specs.declared.module.Module.{Module}
use Rattle.design_walk.specs.Kept.{AreOpen, number_named}
use Rattle.design_descent.proofs.Names.{number_below, same_number}

or_true : (b : Bool) → (b || true) ≡ true
or_true true = refl
or_true false = refl

or_false : (b : Bool) → (b || false) ≡ b
or_false true = refl
or_false false = refl

module _ (ms : List Module) (flags : List Bool) (names : List (List ℕ)) (name : List ℕ) (n : ℕ) (sized : length flags ≡ length ms) (is : number_named ms name ≡ Some n) where
  flag_here : (b : Bool) (k : ℕ) → k ≡ n → slice_get (set flags n b) k ≡ Some b
  flag_here b k e =
      let at : n < length ms = number_below ms name n is in
      let inside : n < length flags = omega arith in
      subst (λ (i : ℕ). slice_get (set flags n b) i ≡ Some b) (sym e) (slice_get-get_or (set flags n b) n b (omega (arith, length-set flags n b)) ∙ ap Some (get_or-set_same flags n b b inside))

  flag_there : (b : Bool) (q : List ℕ) (k : ℕ) → number_named ms q ≡ Some k → k ≢ n → slice_get (set flags n b) k ≡ slice_get flags k
  flag_there b q k e ne =
      let at : k < length ms = number_below ms q k e in
      let inside : k < length flags = omega arith in
      slice_get-get_or (set flags n b) k b (omega (arith, length-set flags n b)) ∙ ap Some (get_or-set_other flags n k b b ne) ∙ sym (slice_get-get_or flags k b inside)

  named : (q : List ℕ) (k : ℕ) → number_named ms q ≡ Some k → k ≡ n → q ≡ name
  named q k e at = same_number ms q name n (e ∙ ap Some at) is

  unnamed : (q : List ℕ) (k : ℕ) → number_named ms q ≡ Some k → k ≢ n → bytes_eq q name ≡ false
  unnamed q k e ne = by (bytes_eq q name) refl
    where
      by : (b : Bool) → bytes_eq q name ≡ b → b ≡ false
      by true h = absurd (ne (same_Some k n (sym e ∙ ap (number_named ms) ((bytes_eq-Decides q name).0 h) ∙ is)))
      by false h = refl

  any_more : (q : List ℕ) (b : Bool) → bytes_eq q name ≡ b → list_any (bytes_eq q) (names ++ name ∷ []) ≡ (list_any (bytes_eq q) names || b)
  any_more q b e = list_any-append (bytes_eq q) names (name ∷ []) ∙ ap (λ (x : Bool). list_any (bytes_eq q) names || x) (or_false (bytes_eq q name) ∙ e)

  no_more : (q : List ℕ) (k : ℕ) → number_named ms q ≡ Some k → k ≢ n → list_any (bytes_eq q) (names ++ name ∷ []) ≡ list_any (bytes_eq q) names
  no_more q k e ne = any_more q false (unnamed q k e ne) ∙ or_false (list_any (bytes_eq q) names)

  pub opened : AreOpen flags ms names → AreOpen (set flags n true) ms (names ++ name ∷ [])
  opened opens q k e = elim (cases_eq k n) [
    | inl at ↦ flag_here true k at ∙ ap Some (sym (any_more q true ((bytes_eq-Decides q name).1 (named q k e at)) ∙ or_true (list_any (bytes_eq q) names)))
    | inr ne ↦ flag_there true q k e ne ∙ opens q k e ∙ ap Some (sym (no_more q k e ne))
  ]

  pub closed : list_any (bytes_eq name) names ≡ false → AreOpen flags ms (names ++ name ∷ []) → AreOpen (set flags n false) ms names
  closed apart opens q k e = elim (cases_eq k n) [
    | inl at ↦ flag_here false k at ∙ ap Some (sym (subst (λ (x : List ℕ). list_any (bytes_eq x) names ≡ false) (sym (named q k e at)) apart))
    | inr ne ↦ flag_there false q k e ne ∙ opens q k e ∙ ap Some (no_more q k e ne)
  ]

-- at first none is set
pub none_open : (ms : List Module) → AreOpen (replicate (length ms) false) ms []
none_open ms q k e =
    let at : k < length ms = number_below ms q k e in
    slice_get-get_or (replicate (length ms) false) k false (omega (arith, length-replicate (length ms) false)) ∙ ap Some (get_or-replicate (length ms) k false false at)
