-- Digits that are written under a mask.
use Rattle.std.proofs.Common.{◌≡◌, ℕ, zero, suc, ◌+◌, ◌-◌, ◌/◌, ◌%◌, ◌^◌, ◌<◌, ◌≤◌, min, max, w64, eqb, cond, bit_and, bit_or, sym, ◌∙◌, ap, arith}
use Rattle.std.proofs.lemmas.Bool.{cond_both}
use Rattle.std.proofs.lemmas.Nat.Bits.{bit_at_not, bit_at_and, bit_at_or, bit_at-lt}
use Rattle.std.specs.Int.{bit_at, bit_not}
use Rattle.circuit.specs.Signal.{gathered}
use Rattle.circuit.proofs.Gathered.{gathered_bit, gathered_below}
use Rattle.memory_cells.proofs.Placed.{field_digit}
use Rattle.state_cells.proofs.Overlaid.{taken_digit}
use Rattle.memory_cells.specs.Ports.{masked_digit}

chosen : (own mask word x : ℕ) → own < 2 → mask < 2 → word < 2 → x ≡ max (min own (1 - mask)) (min word mask) → x ≡ cond (eqb mask 1) word own
chosen own zero word x a b d e = omega arith
chosen own (suc zero) word x a b d e = omega arith
chosen own (suc (suc mask)) word x a b d e = absurd (omega arith)

-- a digit of `(own & !mask) | (word & mask)`
pub masked_word : (own mask word j : ℕ) → mask < 2 ^ 64 → j < 64 → bit_at (bit_or (bit_and own (bit_not w64 mask)) (bit_and word mask)) j ≡ masked_digit mask word own j
masked_word own mask word j lt in' =
    let not_mask : bit_at (bit_not w64 mask) j ≡ 1 - bit_at mask j = bit_at_not w64 mask j lt in' in
    let left : bit_at (bit_and own (bit_not w64 mask)) j ≡ min (bit_at own j) (1 - bit_at mask j) = bit_at_and own (bit_not w64 mask) j ∙ ap (λ x. min (bit_at own j) x) not_mask in
    let right : bit_at (bit_and word mask) j ≡ min (bit_at word j) (bit_at mask j) = bit_at_and word mask j in
    chosen (bit_at own j) (bit_at mask j) (bit_at word j) _ (bit_at-lt own j) (bit_at-lt mask j) (bit_at-lt word j)
    (bit_at_or (bit_and own (bit_not w64 mask)) (bit_and word mask) j ∙ ap (λ x. max x (bit_at (bit_and word mask) j)) left ∙ ap (λ x. max (min (bit_at own j) (1 - bit_at mask j)) x) right)

pub masked_digit_below : (mask word own i : ℕ) → masked_digit mask word own i < 2
masked_digit_below mask word own i = cond_both (eqb (bit_at mask i) 1) (bit_at word i) (bit_at own i) (λ n. n < 2) (λ _. bit_at-lt word i) (λ _. bit_at-lt own i)

pub masked_below : (mask word own w : ℕ) → gathered (masked_digit mask word own) w < 2 ^ w
masked_below mask word own w = gathered_below w (masked_digit mask word own) (masked_digit_below mask word own)

pub masked_bit : (mask word own w i : ℕ) → i < w → bit_at (gathered (masked_digit mask word own) w) i ≡ masked_digit mask word own i
masked_bit mask word own w i lt = gathered_bit w (masked_digit mask word own) (masked_digit_below mask word own) i lt

-- a part of a row that is written: what is left of the signals, the words that are taken, and the word that is made of these
pub record PartOf (en word old now at n made : ℕ) : Type 0 where
  pub en_left : ℕ
  pub word_left : ℕ
  pub en_taken : ℕ
  pub word_taken : ℕ
  pub own : ℕ
  pub small : n ≤ 64
  pub en_is : en_left ≡ en / 2 ^ at
  pub word_is : word_left ≡ word / 2 ^ at
  pub en_word : en_taken ≡ en_left % 2 ^ n
  pub word_word : word_taken ≡ word_left % 2 ^ n
  pub own_is : own ≡ now / 2 ^ at % 2 ^ n
  pub digits : (j : ℕ) → j < 64 → bit_at made j ≡ masked_digit en_taken word_taken own j
  pub high : (i : ℕ) → at ≤ i → bit_at now i ≡ bit_at old i

pub part_digit : (en word old now at n made w j : ℕ) → PartOf en word old now at n made → at + n ≤ w → j < n → bit_at made j ≡ bit_at (gathered (masked_digit en word old) w) (at + j)
part_digit en word old now at n made w j p le lt =
    let m : bit_at p.en_taken j ≡ bit_at en (at + j) = taken_digit en p.en_left p.en_taken at n j p.en_is p.en_word lt in
    let v : bit_at p.word_taken j ≡ bit_at word (at + j) = taken_digit word p.word_left p.word_taken at n j p.word_is p.word_word lt in
    let o : bit_at p.own j ≡ bit_at old (at + j) = ap (λ x. bit_at x j) p.own_is ∙ field_digit now at n j lt ∙ p.high (at + j) (omega arith) in
    p.digits j (omega (arith, p.small))
    ∙ ap (λ x. cond (eqb x 1) (bit_at p.word_taken j) (bit_at p.own j)) m
    ∙ ap (λ x. cond (eqb (bit_at en (at + j)) 1) x (bit_at p.own j)) v
    ∙ ap (λ x. cond (eqb (bit_at en (at + j)) 1) (bit_at word (at + j)) x) o
    ∙ sym (masked_bit en word old w (at + j) (omega arith))
