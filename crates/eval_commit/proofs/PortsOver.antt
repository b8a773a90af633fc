-- Lists of which one element after the other is written.
use Rattle.std.proofs.Common.{◌≡◌, ℕ, zero, suc, ◌+◌, ◌<◌, ◌≤◌, List, [], ◌∷◌, map, length, set, get_or, refl, sym, ◌∙◌, ap, subst, arith, Bool, true, false, not, ◌&&◌, ◌||◌, Some}
use Rattle.std.specs.Prelude.{slice_get}
use Rattle.std.specs.Cmp.Lexicographic.{pointwise}
use Rattle.std.proofs.lemmas.List.{length-map}
use Rattle.driver_check.proofs.Places.{read}

-- ---- lists that are mapped to the same

pub long_as : {X Y Z : Type 0} (f : X → Z) (g : Y → Z) (xs : List X) (ys : List Y) → map f xs ≡ map g ys → length xs ≡ length ys
long_as f g xs ys e = sym (length-map xs f) ∙ ap length e ∙ length-map ys g

-- an element that is read from a list that is another one
pub read_as : {X : Type 0} (xs ys : List X) (i : ℕ) (x : X) → ys ≡ xs → i < length ys → x ≡ get_or ys i x → slice_get xs i ≡ Some x
read_as xs ys i x e lt is = subst (λ (zs : List _). slice_get zs i ≡ Some x) e (read ys i x lt is)

-- ---- the first elements of one list, and the others of another one

abbrev pub over : {X : Type 0} → List X → List X → ℕ → List X
over news olds zero = olds
over [] olds (suc i) = olds
over (x ∷ news) [] (suc i) = []
over (x ∷ news) (y ∷ olds) (suc i) = x ∷ over news olds i

pub over_at : {X : Type 0} (news olds : List X) (i : ℕ) → slice_get (over news olds i) i ≡ slice_get olds i
over_at news olds zero = refl
over_at [] olds (suc i) = refl
over_at (x ∷ news) [] (suc i) = refl
over_at (x ∷ news) (y ∷ olds) (suc i) = over_at news olds i

pub over_length : {X : Type 0} (news olds : List X) (i : ℕ) → length (over news olds i) ≡ length olds
over_length news olds zero = refl
over_length [] olds (suc i) = refl
over_length (x ∷ news) [] (suc i) = refl
over_length (x ∷ news) (y ∷ olds) (suc i) = ap suc (over_length news olds i)

next_over : {X : Type 0} (news olds : List X) (i : ℕ) (x y : X) → slice_get news i ≡ Some x → slice_get olds i ≡ Some y → set (over news olds i) i x ≡ over news olds (suc i)
next_over [] olds i x y a b = cc a
next_over (z ∷ news) [] i x y a b = cc b
next_over (z ∷ news) (o ∷ olds) zero x y a b = let e : z ≡ x = cc a in ap (λ (v : _). v ∷ olds) (sym e)
next_over (z ∷ news) (o ∷ olds) (suc i) x y a b = ap (λ vs. z ∷ vs) (next_over news olds i x y a b)

-- one more of them
pub over_more : {X : Type 0} (news olds : List X) (i : ℕ) (x y : X) → slice_get news i ≡ Some x → slice_get olds i ≡ Some y → set (over news olds i) i x ≡ over news olds (i + 1)
over_more news olds i x y a b = let e : suc i ≡ i + 1 = omega arith in next_over news olds i x y a b ∙ ap (over news olds) e

-- all of them
pub over_all : {X : Type 0} (news olds : List X) (i : ℕ) → length news ≡ length olds → length news ≤ i → over news olds i ≡ news
over_all [] [] zero e le = refl
over_all [] [] (suc i) e le = refl
over_all [] (y ∷ olds) i e le = absurd (omega (arith, e))
over_all (x ∷ news) olds zero e le = absurd (let h : suc (length news) ≤ 0 = le in omega (arith, h))
over_all (x ∷ news) [] (suc i) e le = absurd (omega (arith, e))
over_all (x ∷ news) (y ∷ olds) (suc i) e le = ap (λ vs. x ∷ vs) (over_all news olds i (omega (arith, e)) (omega (arith, le)))

-- an element that is not yet written is still the old one
pub over_old : {X : Type 0} (news olds now : List X) (i : ℕ) (y : X) → now ≡ over news olds i → slice_get now i ≡ Some y → slice_get olds i ≡ Some y
over_old news olds now i y e at = sym (over_at news olds i) ∙ ap (λ (vs : List _). slice_get vs i) (sym e) ∙ at

pub over_put : {X : Type 0} (news olds now : List X) (i : ℕ) (x y z : X) → now ≡ over news olds i → slice_get news i ≡ Some x → slice_get now i ≡ Some y → z ≡ x → set now i z ≡ over news olds (i + 1)
over_put news olds now i x y z e new at is = ap (λ (vs : List _). set vs i z) e ∙ ap (set (over news olds i) i) is ∙ over_more news olds i x y new (over_old news olds now i y e at)

-- ---- whether one of the first elements changed

module _ {X : Type 0} (E : X → X → Bool) (same : (x : X) → E x x ≡ true) where
  pub unchanged : (xs : List X) → pointwise E xs xs ≡ true
  unchanged [] = refl
  unchanged (x ∷ xs) = ap (λ b. b && pointwise E xs xs) (same x) ∙ unchanged xs

  next_told : (news olds : List X) (i : ℕ) (x y : X) → slice_get news i ≡ Some x → slice_get olds i ≡ Some y
      → pointwise E (over news olds (suc i)) olds ≡ (pointwise E (over news olds i) olds && E x y)
  next_told [] olds i x y a b = cc a
  next_told (z ∷ news) [] i x y a b = cc b
  next_told (z ∷ news) (o ∷ olds) zero x y a b =
      let e : z ≡ x = cc a in
      let f : o ≡ y = cc b in
      ap (λ t. E z o && t) (unchanged olds) ∙ and_true (E z o) ∙ ap (λ (v : _). E v o) e ∙ ap (E x) f ∙ sym (ap (λ t. t && E x y) (unchanged (o ∷ olds)))
    where
      and_true : (t : Bool) → (t && true) ≡ t
      and_true true = refl
      and_true false = refl
  next_told (z ∷ news) (o ∷ olds) (suc i) x y a b = ap (λ t. E z o && t) (next_told news olds i x y a b) ∙ grouped (E z o) (pointwise E (over news olds i) olds) (E x y)
    where
      grouped : (r s t : Bool) → (r && (s && t)) ≡ ((r && s) && t)
      grouped true s t = refl
      grouped false s t = refl

  pub told_more : (news olds : List X) (i : ℕ) (x y : X) (changed part : Bool) → slice_get news i ≡ Some x → slice_get olds i ≡ Some y
      → changed ≡ not (pointwise E (over news olds i) olds) → part ≡ not (E x y) → (changed || part) ≡ not (pointwise E (over news olds (i + 1)) olds)
  told_more news olds i x y changed part a b told told_part =
      let e : suc i ≡ i + 1 = omega arith in
      ap (λ t. t || part) told ∙ ap (λ t. not (pointwise E (over news olds i) olds) || t) told_part ∙ either (pointwise E (over news olds i) olds) (E x y)
      ∙ ap not (sym (next_told news olds i x y a b)) ∙ ap (λ n. not (pointwise E (over news olds n) olds)) e
    where
      either : (s t : Bool) → (not s || not t) ≡ not (s && t)
      either true t = refl
      either false t = refl
