-- One more element of a list.
use Rattle.std.proofs.Common.{◌≡◌, ℕ, suc, ◌+◌, ◌<◌, List, ◌∷◌, length, get_or, drop, drop-cons, add-one, sym, ap, ◌∙◌, None, cond, true, false}
use Rattle.std.proofs.lemmas.List.{at_drop_more}
use Rattle.rtlil_tree.specs.declared.sig.Slice.{Slice}
use Rattle.rtlil_signals.specs.Slices.{chosen, is_inside, narrowed}
use Rattle.rtlil_signals.specs.declared.slice.Range.{Range}

pub drop_item : {X : Type 0} (xs : List X) (i : ℕ) (x : X) → i < length xs → x ≡ get_or xs i x → drop i xs ≡ x ∷ drop (i + 1) xs
drop_item xs i x below e = rw (add-one, drop-cons xs i x) (ap (λ y. y ∷ drop (suc i) xs) (sym e))

module _ (r : Range) (all : List Slice) (i : ℕ) (d : Slice) (below : i < length all) where
  pub chosen_more : is_inside r.width (get_or all i d) ≡ true → chosen r (drop i all) ≡ chosen (narrowed r (get_or all i d)) (drop (i + 1) all)
  unfolding chosen
  chosen_more e = at_drop_more (chosen r) all i d below ∙ ap (λ b. cond b (chosen (narrowed r (get_or all i d)) (drop (i + 1) all)) None) e

  pub chosen_stop : is_inside r.width (get_or all i d) ≡ false → chosen r (drop i all) ≡ None
  unfolding chosen
  chosen_stop e = at_drop_more (chosen r) all i d below ∙ ap (λ b. cond b (chosen (narrowed r (get_or all i d)) (drop (i + 1) all)) None) e
