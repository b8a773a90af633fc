-- The next numbers of the registers, one after another.
use Rattle.std.proofs.Common.{◌≡◌, ℕ, suc, ◌+◌, ◌^◌, ◌<◌, List, [], ◌∷◌, length, set, Some, refl, sym, ◌∙◌, ap, subst, arith, inl, inr, get_or-set_other, get_or-set_same}
use Rattle.std.specs.Prelude.{slice_get, slice_index}
use Rattle.std.proofs.lemmas.Bool.{cases_eq}
use Rattle.std.proofs.lemmas.Option.{slice_get_within}
use Rattle.circuit.specs.Signal.{Digits}
use Rattle.circuit.specs.Next.{next_number, next_numbers}
use Rattle.circuit.specs.declared.register.Reg.{Reg}

-- the first n registers have their next numbers, which fit
abbrev pub AreClocked : List Reg → Digits → Digits → List ℕ → List ℕ → ℕ → Type 0
AreClocked rs before now presents next n = (k : ℕ) (r : Reg) → k < n → slice_get rs k ≡ Some r → (slice_index next k ≡ next_number before now r (slice_index presents k)) × (slice_index next k < 2 ^ r.width)

pub clocked_none : (rs : List Reg) (before now : Digits) (presents next : List ℕ) → AreClocked rs before now presents next 0
clocked_none rs before now presents next k r lt = absurd (omega (arith, lt))

pub clocked_more : (rs : List Reg) (before now : Digits) (presents next : List ℕ) (n v : ℕ) (r : Reg) → slice_get rs n ≡ Some r → n < length next → v ≡ next_number before now r (slice_index presents n) → v < 2 ^ r.width
    → AreClocked rs before now presents next n → AreClocked rs before now presents (set next n v) (n + 1)
clocked_more rs before now presents next n v r at there value below done k q lt e = elim (cases_eq k n) [
  | inl same ↦
      (let is : slice_index (set next n v) k ≡ v = ap (slice_index (set next n v)) same ∙ get_or-set_same next n v 0 there in
      let z : Some r ≡ Some q = sym at ∙ ap (slice_get rs) (sym same) ∙ e in
      let rq : r ≡ q = cc z in
      let P : ℕ → Type 0 = λ m. m < 2 ^ q.width in (
        is ∙ value ∙ ap (λ x. next_number before now x (slice_index presents n)) rq ∙ ap (λ m. next_number before now q (slice_index presents m)) (sym same),
        subst P (sym is) (subst (λ (x : Reg). v < 2 ^ x.width) rq below),
      ))
  | inr ne ↦
      (let is : slice_index (set next n v) k ≡ slice_index next k = get_or-set_other next n k v 0 ne in
      let h = done k q (omega (arith, lt, ne)) e in
      let P : ℕ → Type 0 = λ m. m < 2 ^ q.width in
      (is ∙ h.0, subst P (sym is) h.1))
]

pub next_is : (before now : Digits) (rs : List Reg) (ps ws : List ℕ) → length ps ≡ length rs → length ws ≡ length rs → ((k : ℕ) (r : Reg) → slice_get rs k ≡ Some r → slice_index ws k ≡ next_number before now r (slice_index ps k)) → ws ≡ next_numbers before now rs ps
unfolding next_numbers
next_is before now [] ps [] l m h = refl
next_is before now [] ps (w ∷ ws) l m h = absurd (omega (arith, m))
next_is before now (r ∷ rs) [] ws l m h = absurd (omega (arith, l))
next_is before now (r ∷ rs) (p ∷ ps) [] l m h = absurd (omega (arith, m))
next_is before now (r ∷ rs) (p ∷ ps) (w ∷ ws) l m h =
    let head : w ≡ next_number before now r p = h 0 r refl in
    let tail : ws ≡ next_numbers before now rs ps = next_is before now rs ps ws (omega (arith, l)) (omega (arith, m)) (λ k x e. h (suc k) x e) in
    ap (λ y. y ∷ ws) head ∙ ap (λ ys. next_number before now r p ∷ ys) tail

pub clocked_all : (rs : List Reg) (before now : Digits) (presents next : List ℕ) (n : ℕ) → length presents ≡ length rs → length next ≡ length rs → length rs ≡ n → AreClocked rs before now presents next n → next ≡ next_numbers before now rs presents
clocked_all rs before now presents next n l m all done =
    next_is before now rs presents next l m (λ k r e. (done k r (omega (arith, slice_get_within rs k r e, all)) e).0)
