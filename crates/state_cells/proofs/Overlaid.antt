-- Digits that are cleared, or else set.
use Rattle.std.proofs.Common.{◌≡◌, ℕ, ◌+◌, ◌/◌, ◌%◌, ◌^◌, ◌<◌, ◌≤◌, Bool, true, false, eqb, cond, sym, ◌∙◌, ap, arith}
use Rattle.std.proofs.lemmas.Nat.Bits.{bit_at-lt}
use Rattle.std.specs.Int.{bit_at}
use Rattle.circuit.specs.Signal.{gathered}
use Rattle.circuit.proofs.Gathered.{gathered_bit, gathered_below}
use Rattle.sim_base.proofs.Field.{bit_at_mod, bit_at_shr}

cond_below : (b : Bool) (x y : ℕ) → x < 2 → y < 2 → cond b x y < 2
cond_below true x y a b = a
cond_below false x y a b = b

-- a digit of numbers that clear and set and the rest
abbrev pub digit_under : Bool → Bool → ℕ → ℕ → ℕ → ℕ → ℕ
digit_under high_clr high_set clr set rest i = cond (eqb (bit_at clr i) (cond high_clr 1 0)) 0 (cond (eqb (bit_at set i) (cond high_set 1 0)) 1 (bit_at rest i))

digit_under_below : (high_clr high_set : Bool) (clr set rest i : ℕ) → digit_under high_clr high_set clr set rest i < 2
digit_under_below high_clr high_set clr set rest i = cond_below (eqb (bit_at clr i) (cond high_clr 1 0)) 0 _ (omega arith) (cond_below (eqb (bit_at set i) (cond high_set 1 0)) 1 (bit_at rest i) (omega arith) (bit_at-lt rest i))

pub whole_below : (high_clr high_set : Bool) (clr set rest w : ℕ) → gathered (digit_under high_clr high_set clr set rest) w < 2 ^ w
whole_below high_clr high_set clr set rest w = gathered_below w (digit_under high_clr high_set clr set rest) (digit_under_below high_clr high_set clr set rest)

-- a digit of the part that is taken of a number
pub taken_digit : (number left word at n j : ℕ) → left ≡ number / 2 ^ at → word ≡ left % 2 ^ n → j < n → bit_at word j ≡ bit_at number (at + j)
taken_digit number left word at n j l e lt = ap (λ m. bit_at m j) (e ∙ ap (λ m. m % 2 ^ n) l) ∙ bit_at_mod (number / 2 ^ at) n j lt ∙ bit_at_shr number at j

rest_digit : (from_input : Bool) (input old now left word own rest at n j : ℕ) → left ≡ input / 2 ^ at → word ≡ left % 2 ^ n → own ≡ now / 2 ^ at % 2 ^ n → rest ≡ cond from_input word own
    → ((i : ℕ) → at ≤ i → bit_at now i ≡ bit_at old i) → j < n → bit_at rest j ≡ bit_at (cond from_input input old) (at + j)
rest_digit true input old now left word own rest at n j l e o r high lt = ap (λ m. bit_at m j) r ∙ taken_digit input left word at n j l e lt
rest_digit false input old now left word own rest at n j l e o r high lt = ap (λ m. bit_at m j) (r ∙ o) ∙ bit_at_mod (now / 2 ^ at) n j lt ∙ bit_at_shr now at j ∙ high (at + j) (omega arith)

-- a part of a register: what is left of the signals, the words that are taken of them, and the word that is made of these
pub record PartOf (high_clr high_set from_input : Bool) (clr set input old now at n word : ℕ) : Type 0 where
  pub clr_left : ℕ
  pub set_left : ℕ
  pub input_left : ℕ
  pub clr_word : ℕ
  pub set_word : ℕ
  pub input_word : ℕ
  pub clr_digits : ℕ
  pub set_digits : ℕ
  pub own : ℕ
  pub rest : ℕ
  pub small : n ≤ 64
  pub clr_is : clr_left ≡ clr / 2 ^ at
  pub set_is : set_left ≡ set / 2 ^ at
  pub input_is : input_left ≡ input / 2 ^ at
  pub clr_taken : clr_word ≡ clr_left % 2 ^ n
  pub set_taken : set_word ≡ set_left % 2 ^ n
  pub input_taken : input_word ≡ input_left % 2 ^ n
  pub clr_active : (j : ℕ) → j < 64 → eqb (bit_at clr_digits j) 1 ≡ eqb (bit_at clr_word j) (cond high_clr 1 0)
  pub set_active : (j : ℕ) → j < 64 → eqb (bit_at set_digits j) 1 ≡ eqb (bit_at set_word j) (cond high_set 1 0)
  pub own_is : own ≡ now / 2 ^ at % 2 ^ n
  pub rest_is : rest ≡ cond from_input input_word own
  pub made : (j : ℕ) → j < 64 → bit_at word j ≡ cond (eqb (bit_at clr_digits j) 1) 0 (cond (eqb (bit_at set_digits j) 1) 1 (bit_at rest j))
  pub high : (i : ℕ) → at ≤ i → bit_at now i ≡ bit_at old i

pub part_digit : (high_clr high_set from_input : Bool) (clr set input old now at n word w j : ℕ) → PartOf high_clr high_set from_input clr set input old now at n word → at + n ≤ w → j < n
    → bit_at word j ≡ bit_at (gathered (digit_under high_clr high_set clr set (cond from_input input old)) w) (at + j)
part_digit high_clr high_set from_input clr set input old now at n word w j p le lt =
    let clears : eqb (bit_at p.clr_digits j) 1 ≡ eqb (bit_at clr (at + j)) (cond high_clr 1 0) = p.clr_active j (omega (arith, p.small)) ∙ ap (λ m. eqb m (cond high_clr 1 0)) (taken_digit clr p.clr_left p.clr_word at n j p.clr_is p.clr_taken lt) in
    let sets : eqb (bit_at p.set_digits j) 1 ≡ eqb (bit_at set (at + j)) (cond high_set 1 0) = p.set_active j (omega (arith, p.small)) ∙ ap (λ m. eqb m (cond high_set 1 0)) (taken_digit set p.set_left p.set_word at n j p.set_is p.set_taken lt) in
    let rests : bit_at p.rest j ≡ bit_at (cond from_input input old) (at + j) = rest_digit from_input input old now p.input_left p.input_word p.own p.rest at n j p.input_is p.input_taken p.own_is p.rest_is p.high lt in
    p.made j (omega (arith, p.small))
    ∙ ap (λ b. cond b 0 (cond (eqb (bit_at p.set_digits j) 1) 1 (bit_at p.rest j))) clears
    ∙ ap (λ b. cond (eqb (bit_at clr (at + j)) (cond high_clr 1 0)) 0 (cond b 1 (bit_at p.rest j))) sets
    ∙ ap (λ m. cond (eqb (bit_at clr (at + j)) (cond high_clr 1 0)) 0 (cond (eqb (bit_at set (at + j)) (cond high_set 1 0)) 1 m)) rests
    ∙ sym (gathered_bit w (digit_under high_clr high_set clr set (cond from_input input old)) (digit_under_below high_clr high_set clr set (cond from_input input old)) (at + j) (omega arith))
