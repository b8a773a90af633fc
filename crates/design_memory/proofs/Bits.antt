-- A bit of a value, and those beyond it.
use Rattle.std.proofs.Common.{◌≡◌, ℕ, ◌<◌, ◌≤◌, ◌^◌, Bool, true, false, nat_eq, ap, ◌∙◌, sym, refl, arith}
use Rattle.std.specs.Int.{bit_at}
use Rattle.std.proofs.lemmas.Nat.Bits.{bit_at_above}
use Rattle.sim_base.specs.BitValue.{digit_of}

pub set_inside : (b : Bool) (n at : ℕ) → digit_of b ≡ bit_at n at → b ≡ nat_eq (bit_at n at) 1
set_inside true n at e = ap (λ d. nat_eq d 1) e
set_inside false n at e = ap (λ d. nat_eq d 1) e

pub set_beyond : (n width at : ℕ) → n < 2 ^ width → width ≤ at → false ≡ nat_eq (bit_at n at) 1
set_beyond n width at below le = sym (ap (λ d. nat_eq d 1) (bit_at_above n width at below le))
