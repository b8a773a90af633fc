-- Numbers of bits: each bit has one of its own, and they rise by net and by bit.
use Rattle.std.proofs.Common.{◌≡◌, ℕ, zero, suc, ◌+◌, ◌-◌, ◌*◌, ◌<◌, ◌≤◌, List, [], ◌∷◌, length, refl, ◌∙◌, ap, arith, inl, inr, Some, mul-suc}
use Rattle.std.specs.Prelude.{slice_get}
use Rattle.std.proofs.lemmas.Bool.{cases_lt}
use Rattle.circuit.specs.declared.netlist.Drive.{Drive}
use Rattle.circuit.specs.declared.netlist.Net.{Net}
use Rattle.driver_check.specs.Depends.{Bit, IsBefore}
use Rattle.driver_check.specs.Numbers.{before, bit_count, IsBit, IsInsideNet, bit_number, start_of, width_of}
use Rattle.driver_check.proofs.Places.{within}

pub before_zero : {X : Type 0} (size : X → ℕ) (xs : List X) → before size xs 0 ≡ 0
before_zero size [] = refl
before_zero size (x ∷ xs) = refl

pub before_next : {X : Type 0} (size : X → ℕ) (xs : List X) (n : ℕ) (x : X) → slice_get xs n ≡ Some x → before size xs (n + 1) ≡ before size xs n + size x
before_next size [] n x e = cc e
before_next size (y ∷ ys) zero x e =
    let z : y ≡ x = let h : Some y ≡ Some x = e in cc h in
    let w : size y ≡ size x = ap size z in
    let b : before size ys 0 ≡ 0 = before_zero size ys in
    let one : 0 + 1 ≡ suc 0 = omega arith in
    ap (λ (k : ℕ). before size (y ∷ ys) k) one ∙ (let g : size y + before size ys 0 ≡ 0 + size x = omega arith in g)
before_next size (y ∷ ys) (suc n) x e =
    let h : before size ys (n + 1) ≡ before size ys n + size x = before_next size ys n x e in
    let one : suc n + 1 ≡ suc (n + 1) = omega arith in
    ap (λ (k : ℕ). before size (y ∷ ys) k) one ∙ (let g : size y + before size ys (n + 1) ≡ size y + before size ys n + size x = omega arith in g)

-- a part ends before a later one begins
pub before_later : {X : Type 0} (size : X → ℕ) (xs : List X) (n m : ℕ) (x : X) → slice_get xs n ≡ Some x → n < m → before size xs n + size x ≤ before size xs m
before_later size [] n m x e lt = cc e
before_later size (y ∷ ys) n zero x e lt = absurd (omega (arith, lt))
before_later size (y ∷ ys) zero (suc m) x e lt =
    let z : y ≡ x = let h : Some y ≡ Some x = e in cc h in
    let w : size y ≡ size x = ap size z in
    let g : 0 + size x ≤ size y + before size ys m = omega arith in g
before_later size (y ∷ ys) (suc n) (suc m) x e lt =
    let h : before size ys n + size x ≤ before size ys m = before_later size ys n m x e (let z : suc n < suc m = lt in omega arith) in
    let g : size y + before size ys n + size x ≤ size y + before size ys m = omega arith in g

pub bit_below : (nets : List Net) (x : Bit) → IsBit nets x → bit_number nets x < bit_count nets
bit_below nets x b =
    let h = before_later width_of nets x.0 (length nets) b.0 b.1 (within nets x.0 b.0 b.1) in
    omega (arith, h, b.2)

pub number_rises : (nets : List Net) (x y : Bit) → IsBit nets x → IsBefore x y → bit_number nets x < bit_number nets y
number_rises nets x y b (inl lt) =
    let h = before_later width_of nets x.0 y.0 b.0 b.1 lt in
    omega (arith, h, b.2)
number_rises nets x y b (inr e) =
    let h : before width_of nets x.0 ≡ before width_of nets y.0 = ap (before width_of nets) e.0 in
    omega (arith, h, e.1)

-- two numbers are the same only of one bit
pub number_once : (nets : List Net) (x y : Bit) → IsBit nets x → IsBit nets y → bit_number nets x ≡ bit_number nets y → (x.0 ≡ y.0) × (x.1 ≡ y.1)
number_once nets x y a b e = elim (cases_lt x.0 y.0) [
  | inl lt ↦ absurd (let h = number_rises nets x y a (inl lt) in omega (arith, h, e))
  | inr le ↦ elim (cases_lt y.0 x.0) [
    | inl lt ↦ absurd (let h = number_rises nets y x b (inl lt) in omega (arith, h, e))
    | inr ge ↦
        (let z : x.0 ≡ y.0 = omega (arith, le, ge) in
        let h : before width_of nets x.0 ≡ before width_of nets y.0 = ap (before width_of nets) z in
        (z, omega (arith, h, e)))
  ]
]

-- of two bits the one with the smaller number comes first
pub number_order : (nets : List Net) (x y : Bit) → IsBit nets x → IsBit nets y → bit_number nets x ≤ bit_number nets y → IsBefore y x → ⊥
number_order nets x y a b le lt = let h = number_rises nets y x b lt in omega (arith, h, le)

pub before_bound : {X : Type 0} (size : X → ℕ) (most : ℕ) (xs : List X) → ((i : ℕ) (x : X) → slice_get xs i ≡ Some x → size x ≤ most) → (n : ℕ) → before size xs n ≤ most * length xs
before_bound size most [] h n = omega arith
before_bound size most (x ∷ xs) h zero = omega arith
before_bound size most (x ∷ xs) h (suc n) =
    let t : before size xs n ≤ most * length xs = before_bound size most xs (λ i y e. h (suc i) y e) n in
    let x_small : size x ≤ most = h 0 x refl in
    let m : most * suc (length xs) ≡ most * length xs + most = mul-suc most (length xs) in
    let g : size x + before size xs n ≤ most * suc (length xs) = omega arith in g

-- the bits of a drive are among all bits
pub start_inside : (nets : List Net) (d : Drive) → IsInsideNet nets d → start_of nets d + d.width ≤ bit_count nets
start_inside nets d h =
    let e = before_later width_of nets d.net (length nets) h.0 h.1 (within nets d.net h.0 h.1) in
    omega (arith, e, h.2)

-- each number is that of a part of one of the parts
pub split : {X : Type 0} (size : X → ℕ) (xs : List X) (v : ℕ) → v < before size xs (length xs) → (n : ℕ) × (x : X) × (i : ℕ) × (slice_get xs n ≡ Some x) × (i < size x) × (before size xs n + i ≡ v)
split size [] v lt = absurd (let h : v < 0 = lt in omega arith)
split size (x ∷ xs) v lt = elim (cases_lt v (size x)) [
  | inl less ↦ (0, x, v, refl, less, (let h : 0 + v ≡ v = omega arith in h))
  | inr le ↦
      (let r = split size xs (v - size x) (let h : v < size x + before size xs (length xs) = lt in omega (arith, h, le)) in
      (suc r.0, r.1, r.2, r.3, r.4, (let h : size x + before size xs r.0 + r.2 ≡ v = omega (arith, r.5, le) in h)))
]

pub bit_at_number : (nets : List Net) (v : ℕ) → v < bit_count nets → (x : Bit) × IsBit nets x × (bit_number nets x ≡ v)
bit_at_number nets v lt = let r = split width_of nets v lt in ((r.0, r.2), (r.1, r.3, r.4), r.5)
