-- Decimal digits, read from the most significant on, up to a cap.
use Rattle.std.proofs.Common.{◌≡◌, ℕ, ◌+◌, ◌-◌, ◌*◌, ◌<◌, ◌≤◌, List, [], ◌∷◌, length, min, drop, get_or, refl, sym, ap, ◌∙◌, arith, inl, inr, add-one, drop-cons}
use Rattle.std.proofs.lemmas.Bool.{cases_lt}
use Rattle.std.proofs.lemmas.List.{drop_all}
use Rattle.rtlil_lexer.specs.Numbers.{decimal_behind}

-- more digits give no less
decimal_grows : (front : ℕ) (ds : List ℕ) → front ≤ decimal_behind front ds
unfolding decimal_behind
decimal_grows front [] = omega arith
decimal_grows front (d ∷ ds) = omega (arith, decimal_grows (front * 10 + (d - 48)) ds)

-- a front that is capped gives the same number up to the cap
pub capped_front : (cap front : ℕ) (ds : List ℕ) → min cap (decimal_behind (min cap front) ds) ≡ min cap (decimal_behind front ds)
capped_front cap front ds = elim (cases_lt front cap) [
  | inl lt ↦ (let e : min cap front ≡ front = omega arith in ap (λ f. min cap (decimal_behind f ds)) e)
  | inr le ↦
      (let e : min cap front ≡ cap = omega arith in
      let g = decimal_grows cap ds in
      let h = decimal_grows front ds in
      let m : min cap (decimal_behind cap ds) ≡ min cap (decimal_behind front ds) = omega arith in
      ap (λ f. min cap (decimal_behind f ds)) e ∙ m)
]

pub decimal_more : (front i : ℕ) (ds : List ℕ) → i < length ds → decimal_behind front (drop i ds) ≡ decimal_behind (front * 10 + (get_or ds i 0 - 48)) (drop (i + 1) ds)
unfolding decimal_behind
decimal_more front i ds lt = rw (add-one, drop-cons ds i 0) refl

-- one digit more, where the number so far is capped
pub capped_more : (cap front next i whole : ℕ) (ds : List ℕ) → next ≡ min cap (front * 10 + (get_or ds i 0 - 48)) → i < length ds → min cap (decimal_behind front (drop i ds)) ≡ whole → min cap (decimal_behind next (drop (i + 1) ds)) ≡ whole
capped_more cap front next i whole ds is lt before =
    ap (λ n. min cap (decimal_behind n (drop (i + 1) ds))) is
    ∙ capped_front cap (front * 10 + (get_or ds i 0 - 48)) (drop (i + 1) ds)
    ∙ ap (min cap) (sym (decimal_more front i ds lt))
    ∙ before

pub capped_all : (cap front i whole : ℕ) (ds : List ℕ) → length ds ≤ i → front ≤ cap → min cap (decimal_behind front (drop i ds)) ≡ whole → front ≡ whole
unfolding decimal_behind
capped_all cap front i whole ds le capped before =
    let e : min cap front ≡ front = omega arith in
    sym e ∙ ap (λ rest. min cap (decimal_behind front rest)) (sym (drop_all i ds le)) ∙ before
