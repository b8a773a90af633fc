-- Numbers of one word and of more.
use Rattle.std.proofs.Common.{◌≡◌, ℕ, ◌-◌, ◌/◌, ◌%◌, ◌^◌, ◌<◌, ◌≤◌, [], ◌∷◌, min, false, cond, nat_eq, ap, sym, ◌∙◌, arith, inl, inr}
use Rattle.std.specs.Int.{bit_at}
use Rattle.std.proofs.Math.Pow.{pow_mono}
use Rattle.std.proofs.lemmas.Bool.{cases_lt}
use Rattle.std.proofs.lemmas.Nat.Bits.{bit_at_above, same_from_bits}
use Rattle.sim_base.proofs.Field.{bit_at_mod}
use Rattle.std.proofs.lemmas.Bool.Decides.{nat_tests}
use Rattle.std.proofs.lemmas.Nat.{mod_below, pow_pos}
use Rattle.std.proofs.Math.Nat.{zero-div, zero-mod}
use Rattle.sim_base.specs.BitValue.{bit_value, zeros}
use Rattle.circuit.specs.declared.netlist.Piece.TheVariants as piece
use Rattle.circuit.specs.Signal.{piece_part}
use Rattle.rtlil_signals.specs.Signals.{whole}

pub zero_piece : (width : ℕ) → 0 < width → whole (piece.Const (zeros width)) ≡ piece.Const (zeros width) ∷ []
zero_piece width lt =
    let some : nat_eq width 0 ≡ false = grind (arith, nat_tests) in
    ap (λ b. cond b [] (piece_part 0 width (piece.Const (zeros width)) ∷ [])) some
    ∙ ap (λ n. piece.Const (bit_value width n) ∷ []) (ap (λ n. n % 2 ^ width) (zero-div (2 ^ 0)) ∙ zero-mod (2 ^ width))

-- ---- numbers of 64 bits

pub capped_small : (n width : ℕ) → n < 2 ^ width → width ≤ 64 → n ≡ min n (2 ^ 64 - 1)
capped_small n width below few = let wide = pow_mono few in omega arith

pub capped_big : (n at : ℕ) → 64 ≤ at → bit_at n at ≡ 1 → 2 ^ 64 - 1 ≡ min n (2 ^ 64 - 1)
capped_big n at le one = elim (cases_lt n (2 ^ 64)) [
  | inl lt ↦ absurd (let zero : bit_at n at ≡ 0 = bit_at_above n 64 at lt le in omega arith)
  | inr big ↦ omega arith
]

pub capped_word : (n width : ℕ) → n < 2 ^ width → ((at : ℕ) → 64 ≤ at → at < width → bit_at n at ≡ 0) → n / 2 ^ 0 % 2 ^ 64 ≡ min n (2 ^ 64 - 1)
capped_word n width below zeros =
    let low : n % 2 ^ 64 ≡ n = same_from_bits (n % 2 ^ 64) n (λ at. elim (cases_lt at 64) [
      | inl lt ↦ bit_at_mod n 64 at lt
      | inr le ↦ bit_at_above (n % 2 ^ 64) 64 at (mod_below n (2 ^ 64) (pow_pos 64)) le ∙ sym (elim (cases_lt at width) [
        | inl lt ↦ zeros at le lt
        | inr out ↦ bit_at_above n width at below out
      ])
    ]) in
    let small : n % 2 ^ 64 < 2 ^ 64 = mod_below n (2 ^ 64) (pow_pos 64) in
    let whole : n / 2 ^ 0 ≡ n = omega arith in
    ap (λ k. k % 2 ^ 64) whole ∙ low ∙ omega arith
