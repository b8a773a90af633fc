-- The digits of a number that words stand for.
use Rattle.std.proofs.Common.{◌≡◌, ℕ, zero, suc, ◌+◌, ◌-◌, ◌*◌, ◌/◌, ◌%◌, ◌^◌, ◌<◌, ◌≤◌, List, [], ◌∷◌, ◌++◌, length, drop, slice_index, min, refl, sym, ◌∙◌, ap, arith, append_assoc, inl, inr}
use Rattle.std.proofs.lemmas.Bool.{cases_lt}
use Rattle.std.proofs.lemmas.List.{append-nil}
use Rattle.std.proofs.lemmas.Nat.{pow-add}
use Rattle.std.proofs.Math.Nat.{pow-suc, div-div-eq-div-mul}
use Rattle.sim_base.specs.BitValue.{hexadecimal_length}
use Rattle.sim_base.specs.Digits.{digit_character, lowest_digits}
use Rattle.sim_base.specs.Shape.{words_of_width}
use Rattle.spool_format.specs.Records.{slot_number}
use Rattle.trace_text.specs.Text.{value_text}

-- the digits above k, and then the k lowest
digits_split : (d k n : ℕ) → lowest_digits 16 (d + k) n ≡ lowest_digits 16 d (n / 16 ^ k) ++ lowest_digits 16 k n
unfolding lowest_digits
digits_split d zero n =
    let none : d + 0 ≡ d = omega arith in
    let one : n ≡ n / 1 = omega arith in
    ap (λ m. lowest_digits 16 m n) none ∙ ap (lowest_digits 16 d) one ∙ sym (append-nil (lowest_digits 16 d (n / 16 ^ 0)))
digits_split d (suc k) n =
    let more : d + suc k ≡ suc (d + k) = omega arith in
    let front = lowest_digits 16 d (n / 16 ^ suc k) in
    ap (λ m. lowest_digits 16 m n) more
    ∙ ap (λ ds. ds ++ digit_character (n % 16) ∷ []) (digits_split d k (n / 16)
    ∙ ap (λ m. lowest_digits 16 d m ++ lowest_digits 16 k (n / 16)) (div-div-eq-div-mul n 16 (16 ^ k) ∙ ap (λ m. n / m) (let e : 16 * 16 ^ k ≡ 16 ^ k * 16 = omega arith in e ∙ sym (pow-suc 16 k))))
    ∙ append_assoc front (lowest_digits 16 k (n / 16)) (digit_character (n % 16) ∷ [])

-- what stands above k digits does not change them
digits_below : (k high low : ℕ) → lowest_digits 16 k (high * 16 ^ k + low) ≡ lowest_digits 16 k low
unfolding lowest_digits
digits_below zero high low = refl
digits_below (suc k) high low =
    let power : 16 ^ suc k ≡ 16 ^ k * 16 = pow-suc 16 k in
    let whole : high * 16 ^ suc k ≡ high * 16 ^ k * 16 = ap (λ p. high * p) power ∙ (let e : high * (16 ^ k * 16) ≡ high * 16 ^ k * 16 = omega arith in e) in
    let above : (high * 16 ^ suc k + low) / 16 ≡ high * 16 ^ k + low / 16 = omega (arith, whole) in
    let digit : (high * 16 ^ suc k + low) % 16 ≡ low % 16 = omega (arith, whole) in
    ap (λ m. lowest_digits 16 k m ++ digit_character ((high * 16 ^ suc k + low) % 16) ∷ []) above
    ∙ ap (λ ds. ds ++ digit_character ((high * 16 ^ suc k + low) % 16) ∷ []) (digits_below k high (low / 16))
    ∙ ap (λ m. lowest_digits 16 k (low / 16) ++ digit_character m ∷ []) digit

-- at most eight digits of a word are those of the number that has it as its lowest word
digits_of_word : (k high word : ℕ) → k ≤ 8 → lowest_digits 16 k (high * 2 ^ 32 + word) ≡ lowest_digits 16 k word
digits_of_word k high word most =
    let parts : 8 ≡ (8 - k) + k = omega arith in
    let power : 2 ^ 32 ≡ 16 ^ (8 - k) * 16 ^ k = ap (λ n. 16 ^ n) parts ∙ pow-add 16 (8 - k) k in
    let whole : high * 2 ^ 32 ≡ high * 16 ^ (8 - k) * 16 ^ k = ap (λ p. high * p) power ∙ (let e : high * (16 ^ (8 - k) * 16 ^ k) ≡ high * 16 ^ (8 - k) * 16 ^ k = omega arith in e) in
    ap (λ m. lowest_digits 16 k (m + word)) whole ∙ digits_below k (high * 16 ^ (8 - k)) word

digits_on : (d high word : ℕ) → word < 2 ^ 32 → lowest_digits 16 d high ++ lowest_digits 16 8 word ≡ lowest_digits 16 (d + 8) (high * 2 ^ 32 + word)
digits_on d high word small =
    let above : (high * 2 ^ 32 + word) / 16 ^ 8 ≡ high = omega arith in
    sym (digits_split d 8 (high * 2 ^ 32 + word) ∙ ap (λ m. lowest_digits 16 d m ++ lowest_digits 16 8 (high * 2 ^ 32 + word)) above ∙ ap (λ ds. lowest_digits 16 d high ++ ds) (digits_of_word 8 high word (omega arith)))

pub no_digits : (n : ℕ) → lowest_digits 16 0 n ≡ []
unfolding lowest_digits
no_digits n = refl

-- the digits of a word behind those of the words above it
pub word_behind : (digits place high word : ℕ) → word < 2 ^ 32
    → lowest_digits 16 (digits - 8 * suc place) high ++ lowest_digits 16 (min 8 (digits - 8 * place)) word ≡ lowest_digits 16 (digits - 8 * place) (high * 2 ^ 32 + word)
word_behind digits place high word small = elim (cases_lt (8 * suc place) digits) [
  | inl more ↦
      let all : min 8 (digits - 8 * place) ≡ 8 = omega arith in
      let sum : digits - 8 * suc place + 8 ≡ digits - 8 * place = omega arith in
      ap (λ k. lowest_digits 16 (digits - 8 * suc place) high ++ lowest_digits 16 k word) all
      ∙ digits_on (digits - 8 * suc place) high word small ∙ ap (λ k. lowest_digits 16 k (high * 2 ^ 32 + word)) sum
  | inr last ↦
      let none : digits - 8 * suc place ≡ 0 = omega arith in
      let some : min 8 (digits - 8 * place) ≡ digits - 8 * place = omega arith in
      ap (λ k. lowest_digits 16 k high ++ lowest_digits 16 (min 8 (digits - 8 * place)) word) none
      ∙ ap (λ ds. ds ++ lowest_digits 16 (min 8 (digits - 8 * place)) word) (no_digits high)
      ∙ ap (λ k. lowest_digits 16 k word) some
      ∙ sym (digits_of_word (digits - 8 * place) high word (omega arith))
]

-- the words from a place on stand for what those behind it do, and the word there
pub word_first : (words : List ℕ) (place : ℕ) → place < length words → slot_number (drop place words) ≡ slot_number (drop (suc place) words) * 2 ^ 32 + slice_index words place
unfolding slot_number
word_first [] place there = absurd (omega arith)
word_first (w ∷ ws) zero there = refl
word_first (w ∷ ws) (suc place) there = word_first ws place (omega arith)

one_zero : (number : ℕ) → number ≡ 0 → 48 ∷ [] ≡ lowest_digits 16 1 number
unfolding lowest_digits
one_zero number none = ap (λ n. lowest_digits 16 1 n) (sym none)

no_words : (words : List ℕ) → length words ≡ 0 → slot_number words ≡ 0
unfolding slot_number
no_words [] none = refl
no_words (w ∷ ws) none = absurd (omega (arith, none))

-- a value of no bits is one digit
pub value_of_none : (text : List ℕ) (width : ℕ) (words : List ℕ) → length words ≡ words_of_width width → (width + 3) / 4 ≡ 0 → (text ++ 32 ∷ []) ++ 48 ∷ [] ≡ text ++ value_text width (slot_number words)
value_of_none text width words room none =
    let no_bits : width ≡ 0 = omega (arith, none) in
    let one : hexadecimal_length width ≡ 1 = ap hexadecimal_length no_bits in
    let zero_words : length words ≡ 0 = room ∙ ap words_of_width no_bits in
    append_assoc text (32 ∷ []) (48 ∷ [])
    ∙ ap (λ ds. text ++ 32 ∷ ds) (one_zero (slot_number words) (no_words words zero_words) ∙ ap (λ k. lowest_digits 16 k (slot_number words)) (sym one))
