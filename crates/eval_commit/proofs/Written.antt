-- The digits after the bits of a root were written.
use Rattle.std.proofs.Common.{◌≡◌, ◌≢◌, ℕ, zero, suc, ◌+◌, ◌<◌, List, [], ◌∷◌, length, set, get_or, sym, ◌∙◌, ap, arith, inl, inr, Bool, true, false, ◌&&◌, cond, Some, nat_eq, nat_le, nat_lt}
use Rattle.std.specs.Prelude.{slice_get, slice_index}
use Rattle.std.specs.Int.{bit_at}
use Rattle.std.proofs.lemmas.Bool.{cases_eq, cond-false}
use Rattle.std.proofs.lemmas.Bool.Decides.{nat_tests}
use Rattle.std.proofs.lemmas.List.{map-set, get_or-set_same, get_or-set_other, length-map}
use Rattle.std.proofs.lemmas.Option.{get_or_from_slice_get}
use Rattle.std.proofs.Math.Seq.{map-set_same}
use Rattle.sim_base.specs.BitValue.{BitValue, digit_after_copy}
use Rattle.circuit.specs.Valuation.{covers, offset_of}
use Rattle.circuit.specs.declared.netlist.Drive.{Drive}
use Rattle.driver_check.specs.Depends.{Bit}
use Rattle.driver_check.proofs.Places.{within}
use Rattle.sim_base.specs.Values.{numbers, value_at, widths}
use Rattle.signal_words.specs.Values.{digits_in}
use Rattle.eval_commit.specs.Spread.{taken_digit}

-- a value that is read
pub viewed : (values : List BitValue) (n : ℕ) (v : BitValue) → n < length values → v ≡ value_at values n → slice_get values n ≡ Some v
viewed [] n v lt e = absurd (omega (arith, lt))
viewed (x ∷ xs) zero v lt e = ap (λ (u : BitValue). Some u) (sym e)
viewed (x ∷ xs) (suc n) v lt e = viewed xs n v (omega (arith, lt)) e

pub view_read : (values : List BitValue) (n : ℕ) (v : BitValue) → n < length values → v ≡ value_at values n → v ≡ get_or values n v
view_read values n v lt e = sym (get_or_from_slice_get values n v v (viewed values n v lt e))

pub put_widths : (nets : List BitValue) (n : ℕ) (x y : BitValue) → slice_get nets n ≡ Some x → y.width ≡ x.width → widths (set nets n y) ≡ widths nets
put_widths nets n x y at e =
    map-set_same (λ (v : BitValue). v.width) nets n y x (e ∙ sym (ap (λ (v : BitValue). v.width) (get_or_from_slice_get nets n x x at)))

pub number_set : (nets : List BitValue) (n : ℕ) (x y : BitValue) → slice_get nets n ≡ Some x → slice_index (numbers (set nets n y)) n ≡ y.number
number_set nets n x y at =
    ap (λ (ns : List ℕ). get_or ns n 0) (map-set (λ (v : BitValue). v.number) nets n y)
    ∙ get_or-set_same (numbers nets) n y.number 0 (let lt : n < length nets = within nets n x at in let l : length (numbers nets) ≡ length nets = length-map nets (λ (v : BitValue). v.number) in omega (arith, lt, l))

number_other : (nets : List BitValue) (n m : ℕ) (y : BitValue) → m ≢ n → slice_index (numbers (set nets n y)) m ≡ slice_index (numbers nets) m
number_other nets n m y ne =
    ap (λ (ns : List ℕ). get_or ns m 0) (map-set (λ (v : BitValue). v.number) nets n y) ∙ get_or-set_other (numbers nets) n m y.number 0 ne

pub number_in : (nets : List BitValue) (n : ℕ) (x : BitValue) → slice_get nets n ≡ Some x → slice_index (numbers nets) n ≡ x.number
number_in nets n x at = go nets n at
  where
    go : (vs : List BitValue) (k : ℕ) → slice_get vs k ≡ Some x → slice_index (numbers vs) k ≡ x.number
    go [] k e = cc e
    go (v ∷ vs) zero e = ap (λ (u : BitValue). u.number) (let s : v ≡ x = cc e in s)
    go (v ∷ vs) (suc k) e = go vs k e

same_test : (n : ℕ) (t : Bool) → (nat_eq n n && t) ≡ t
same_test n t = ap (λ (b : Bool). b && t) (let e : nat_eq n n ≡ true = grind (arith, nat_tests) in e)

other_test : (n m : ℕ) (t : Bool) → m ≢ n → (nat_eq n m && t) ≡ false
other_test n m t ne = ap (λ (b : Bool). b && t) (let e : nat_eq n m ≡ false = grind (arith, nat_tests) in e)

pub put_digits : (nets : List BitValue) (r : Drive) (x y : BitValue) (from : ℕ) → slice_get nets r.net ≡ Some x → ((j : ℕ) → bit_at y.number j ≡ digit_after_copy r.at from (offset_of r.by) r.width x.number j)
    → (b : Bit) → digits_in (set nets r.net y) b.0 b.1 ≡ cond (covers b.0 b.1 r) (taken_digit from r b) (digits_in nets b.0 b.1)
put_digits nets r x y from at bits b = elim (cases_eq b.0 r.net) [
  | inl e ↦ rw e (
      ap (λ (n : ℕ). bit_at n b.1) (number_set nets r.net x y at) ∙ bits b.1
      ∙ ap (λ (n : ℕ). cond (nat_le r.at b.1 && nat_lt b.1 (r.at + r.width)) (taken_digit from r b) (bit_at n b.1)) (sym (number_in nets r.net x at))
      ∙ ap (λ (t : Bool). cond t (taken_digit from r b) (digits_in nets r.net b.1)) (sym (same_test r.net (nat_le r.at b.1 && nat_lt b.1 (r.at + r.width)))))
  | inr ne ↦
      (ap (λ (n : ℕ). bit_at n b.1) (number_other nets r.net b.0 y ne)
      ∙ sym (cond-false (covers b.0 b.1 r) (taken_digit from r b) (digits_in nets b.0 b.1) (other_test r.net b.0 (nat_le r.at b.1 && nat_lt b.1 (r.at + r.width)) ne)))
]
