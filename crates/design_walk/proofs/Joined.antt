-- Flags that are joined place by place, as far as both lists go.
use Rattle.std.proofs.Common.{◌≡◌, ℕ, zero, suc, ◌+◌, ◌≤◌, ◌||◌, Bool, List, [], ◌∷◌, ◌++◌, length, drop, drop-cons, add-one, None, Some, refl, sym, ap, ◌∙◌, append_assoc, append-nil, arith}
use Rattle.std.specs.List.{slice_get}
use Rattle.std.proofs.lemmas.List.{drop_all}
use Rattle.std.proofs.lemmas.Option.{get_or_from_slice_get, slice_get_within}
use Rattle.design_walk.specs.Walks.{clash_flags}

dropped : {X : Type 0} (xs : List X) (i : ℕ) (x : X) → slice_get xs i ≡ Some x → drop i xs ≡ x ∷ drop (i + 1) xs
dropped xs i x e =
    let below = slice_get_within xs i x e in
    rw (add-one, drop-cons xs i x) (ap (λ y. y ∷ drop (suc i) xs) (get_or_from_slice_get xs i x x e))

past : {X : Type 0} (xs : List X) (i : ℕ) → slice_get xs i ≡ None → length xs ≤ i
past [] i e = omega arith
past (x ∷ xs) zero e = cc
past (x ∷ xs) (suc i) e = let h = past xs i e in omega (arith, h)

none_left : (cells : List Bool) → clash_flags cells [] ≡ []
unfolding clash_flags
none_left [] = refl
none_left (c ∷ cells) = refl

module _ (cells items front whole : List Bool) (i : ℕ) (so_far : front ++ clash_flags (drop i cells) (drop i items) ≡ whole) where
  pub flags_more : (a b : Bool) → slice_get cells i ≡ Some a → slice_get items i ≡ Some b → (front ++ (a || b) ∷ []) ++ clash_flags (drop (i + 1) cells) (drop (i + 1) items) ≡ whole
  unfolding clash_flags
  flags_more a b e f =
      append_assoc front ((a || b) ∷ []) (clash_flags (drop (i + 1) cells) (drop (i + 1) items))
      ∙ ap (λ fs. front ++ fs) (ap (λ cs. clash_flags cs (b ∷ drop (i + 1) items)) (sym (dropped cells i a e)) ∙ ap (clash_flags (drop i cells)) (sym (dropped items i b f)))
      ∙ so_far

  pub flags_end : slice_get items i ≡ None → front ≡ whole
  flags_end e =
      sym (append-nil front)
      ∙ ap (λ fs. front ++ fs) (sym (ap (clash_flags (drop i cells)) (drop_all i items (past items i e)) ∙ none_left (drop i cells)))
      ∙ so_far

  pub flags_all : length cells ≤ i → front ≡ whole
  unfolding clash_flags
  flags_all below =
      sym (append-nil front)
      ∙ ap (λ fs. front ++ fs) (sym (ap (λ cs. clash_flags cs (drop i items)) (drop_all i cells below)))
      ∙ so_far
