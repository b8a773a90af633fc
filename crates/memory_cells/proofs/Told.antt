-- Whether a list of numbers changed, told element by element.
use Rattle.std.proofs.Common.{◌≡◌, ◌≢◌, ℕ, ◌*◌, ◌^◌, ◌<◌, ◌==◌, List, length, get_or, set, eqb, refl, sym, ◌∙◌, ap, inl, inr, Bool, true, false, not, ◌||◌, nat_eq}
use Rattle.std.specs.Cmp.Lexicographic.{pointwise}
use Rattle.std.proofs.lemmas.Bool.{cases_eq, eq-eqb, ne_eqb}
use Rattle.std.proofs.lemmas.List.{set-get_or, get_or-set_same}
use Rattle.std.proofs.lemmas.Slice.Eq.{bytes_eq-Decides}
use Rattle.std.proofs.Math.Nat.{mod-eq_of_lt}
use Rattle.sim_base.specs.Parts.{number_of_parts, parts}
use Rattle.sim_base.proofs.Parts.{parts_make}

-- the lists are equal, or not
abbrev pub same_lists : List ℕ → List ℕ → Bool
same_lists xs ys = pointwise nat_eq xs ys

pub same_true : (xs ys : List ℕ) → xs ≡ ys → same_lists xs ys ≡ true
same_true xs ys e = (bytes_eq-Decides xs ys).1 e

pub same_false : (xs ys : List ℕ) → xs ≢ ys → same_lists xs ys ≡ false
same_false xs ys ne = of (same_lists xs ys) refl
  where
    of : (b : Bool) → same_lists xs ys ≡ b → b ≡ false
    of true e = absurd (ne ((bytes_eq-Decides xs ys).0 e))
    of false e = refl

-- an element is another one, where it was still the old one or where nothing differs
pub told_set : (old now : List ℕ) (i v : ℕ) (changed part : Bool) → i < length now → changed ≡ not (same_lists now old) → part ≡ not (eqb v (get_or now i 0))
    → (set now i v ≡ old → v ≡ get_or now i 0)
    → (changed || part) ≡ not (same_lists (set now i v) old)
told_set old now i v changed part lt told told_part back = elim (cases_eq v (get_or now i 0)) [
  | inl e ↦
      (let same : set now i v ≡ now = ap (set now i) e ∙ set-get_or now i 0 in
      let none : part ≡ false = told_part ∙ ap not (eq-eqb v (get_or now i 0) e) in
      ap (λ b. changed || b) none ∙ or_false changed ∙ told ∙ ap (λ (xs : List ℕ). not (same_lists xs old)) (sym same))
  | inr ne ↦
      (let some : part ≡ true = told_part ∙ ap not (ne_eqb v (get_or now i 0) ne) in
      let apart : same_lists (set now i v) old ≡ false = same_false (set now i v) old (λ e. ne (back e)) in
      ap (λ b. changed || b) some ∙ or_true changed ∙ ap not (sym apart))
]
  where
    or_false : (b : Bool) → (b || false) ≡ b
    or_false true = refl
    or_false false = refl

    or_true : (b : Bool) → (b || true) ≡ true
    or_true true = refl
    or_true false = refl

-- nothing has changed yet
pub told_none : (old : List ℕ) → false ≡ not (same_lists old old)
told_none old = ap not (sym (same_true old old refl))

-- one element is another one
pub told_one : (xs : List ℕ) (i v : ℕ) → i < length xs → same_lists (set xs i v) xs ≡ eqb v (get_or xs i 0)
told_one xs i v lt = elim (cases_eq v (get_or xs i 0)) [
  | inl e ↦ same_true (set xs i v) xs (ap (set xs i) e ∙ set-get_or xs i 0) ∙ sym (eq-eqb v (get_or xs i 0) e)
  | inr ne ↦ same_false (set xs i v) xs (λ e. ne (sym (get_or-set_same xs i v 0 lt) ∙ ap (λ (ys : List ℕ). get_or ys i 0) e)) ∙ sym (ne_eqb v (get_or xs i 0) ne)
]

-- numbers differ where their parts do
pub told_parts : (w count old new : ℕ) → old < 2 ^ (count * w) → new < 2 ^ (count * w) → (new == old) ≡ same_lists (parts w count new) (parts w count old)
told_parts w count old new low_old low_new = elim (cases_eq new old) [
  | inl e ↦ eq-eqb new old e ∙ sym (same_true (parts w count new) (parts w count old) (ap (parts w count) e))
  | inr ne ↦ ne_eqb new old ne ∙ sym (same_false (parts w count new) (parts w count old) (λ e. ne (whole new low_new ∙ ap (number_of_parts w) e ∙ sym (whole old low_old))))
]
  where
    whole : (n : ℕ) → n < 2 ^ (count * w) → n ≡ number_of_parts w (parts w count n)
    whole n lt = sym (parts_make w count n ∙ mod-eq_of_lt lt)
