-- Values that are given their numbers one after another.
use Rattle.std.proofs.Common.{◌≡◌, ℕ, zero, suc, ◌<◌, List, [], ◌∷◌, length, map, get_or, refl, ap, arith}
use Rattle.sim_base.specs.BitValue.{BitValue, zeros}
use Rattle.sim_base.specs.Values.{width_at, with_number}

-- the first of the values have their numbers, and the others are 0
pub filled : List BitValue → ℕ → List BitValue
filled [] i = []
filled (v ∷ vs) zero = zeros v.width ∷ filled vs zero
filled (v ∷ vs) (suc i) = v ∷ filled vs i

pub filled_none : (vs : List BitValue) → map zeros (map (λ (v : BitValue). v.width) vs) ≡ filled vs 0
unfolding filled
filled_none [] = refl
filled_none (v ∷ vs) = ap (λ (l : List BitValue). zeros v.width ∷ l) (filled_none vs)

pub filled_all : (vs : List BitValue) → filled vs (length vs) ≡ vs
unfolding filled
filled_all [] = refl
filled_all (v ∷ vs) = ap (λ (l : List BitValue). v ∷ l) (filled_all vs)

pub filled_length : (vs : List BitValue) (i : ℕ) → length (filled vs i) ≡ length vs
unfolding filled
filled_length [] i = refl
filled_length (v ∷ vs) zero = ap suc (filled_length vs 0)
filled_length (v ∷ vs) (suc i) = ap suc (filled_length vs i)

pub filled_width : (vs : List BitValue) (i : ℕ) (v : BitValue) → i < length vs → v ≡ get_or vs i v → v.width ≡ width_at (filled vs i) i
unfolding filled
filled_width [] i v lt e = absurd (omega (arith, lt))
filled_width (u ∷ vs) zero v lt e = ap (λ (x : BitValue). x.width) e
filled_width (u ∷ vs) (suc i) v lt e = filled_width vs i v (omega (arith, lt)) e

pub filled_more : (vs : List BitValue) (i : ℕ) (v : BitValue) → i < length vs → v ≡ get_or vs i v → with_number (filled vs i) i v.number ≡ filled vs (suc i)
unfolding filled
filled_more [] i v lt e = absurd (omega (arith, lt))
filled_more (u ∷ vs) zero v lt e = ap (λ (x : BitValue). record { width = u.width; number = x.number } ∷ filled vs 0) e
filled_more (u ∷ vs) (suc i) v lt e = ap (λ (l : List BitValue). u ∷ l) (filled_more vs i v (omega (arith, lt)) e)
