-- Numbers that are put together from parts.
use Rattle.std.proofs.Common.{◌≡◌, ℕ, zero, suc, ◌+◌, ◌-◌, ◌*◌, ◌/◌, ◌%◌, ◌^◌, ◌<◌, ◌≤◌, sym, ◌∙◌, ap, subst, arith, lit<}
use Rattle.std.proofs.Math.Nat.{pow-le-pow_right}
use Rattle.std.proofs.Math.Pow.{field, mod-mod-pow}
use Rattle.std.specs.Int.{bit_at}
use Rattle.std.proofs.lemmas.Nat.{mod-pow-add, shr-shr, shr_split, pow-add, mul-add-lt, shl_whole, shr_high, mod_low, mod_below, pow_pos}
use Rattle.circuit.specs.Signal.{gathered}

-- some digits of a number, as the number that they make
pub field_gathered : (x at w : ℕ) → x / 2 ^ at % 2 ^ w ≡ gathered (λ j. bit_at x (at + j)) w
unfolding gathered
field_gathered x at zero = omega arith
field_gathered x at (suc w) =
    let e : suc w ≡ 1 + w = omega arith in
    ap (λ v. x / 2 ^ at % 2 ^ v) e ∙ mod-pow-add (x / 2 ^ at) 1 w
    ∙ ap (λ m. (m % 2 ^ 1) * 2 ^ w + x / 2 ^ at % 2 ^ w) (shr-shr x at w)
    ∙ ap (λ g. bit_at x (at + w) * 2 ^ w + g) (field_gathered x at w)

-- one more part still fits
pub shifted_below : (x p w offset : ℕ) → x < 2 ^ offset → p < 2 ^ w → p * 2 ^ offset + x < 2 ^ (offset + w)
shifted_below x p w offset a b =
    let m : p * 2 ^ offset + x < 2 ^ offset * 2 ^ w = mul-add-lt p (2 ^ offset) x (2 ^ w) b a in
    rw (pow-add 2 offset w) m

-- a part that is put above a word
pub record IsAbove (offset w p word : ℕ) : Type 0 where
  pub sum : word + p * 2 ^ offset % 2 ^ 64 ≡ p * 2 ^ offset + word
  pub below : p * 2 ^ offset + word < 2 ^ (offset + w)
  pub fits : word + p * 2 ^ offset % 2 ^ 64 < 2 ^ 64

pub put_above : (offset w p word : ℕ) → word < 2 ^ offset → p < 2 ^ w → offset + w ≤ 64 → IsAbove offset w p word
put_above offset w p word a b le =
    let s : p * 2 ^ offset % 2 ^ 64 ≡ p * 2 ^ offset = shl_whole p w offset 64 b (omega arith) in
    let m : p * 2 ^ offset + word < 2 ^ (offset + w) = shifted_below word p w offset a b in
    let t : 2 ^ (offset + w) ≤ 2 ^ 64 = pow-le-pow_right {n = 2} (lit< tt) {i = offset + w} {j = 64} le in
    record { sum = omega (arith, s); below = m; fits = omega (arith, s, m, t) }

-- a number that is read from its least digit on: `word` has the `taken` digits that are read, `rest` those that are left
pub record IsRead (number rest word taken : ℕ) : Type 0 where
  pub sum : number ≡ rest * 2 ^ taken + word
  pub below : word < 2 ^ taken

pub none_read : (number : ℕ) → IsRead number number 0 0
none_read number = record { sum = omega arith; below = lit< tt }

pub more_read : (number rest word taken part w : ℕ) → IsRead number rest word taken → part ≡ rest % 2 ^ w → taken + w ≤ 64 → IsRead number (rest / 2 ^ w) (word + part * 2 ^ taken % 2 ^ 64) (taken + w)
more_read number rest word taken part w r e le =
    let b : part < 2 ^ w = subst (λ n. n < 2 ^ w) (sym e) (mod_below rest (2 ^ w) (pow_pos w)) in
    let s : IsAbove taken w part word = put_above taken w part word r.below b le in
    let d : rest / 2 ^ w * 2 ^ w + part ≡ rest = ap (λ n. rest / 2 ^ w * 2 ^ w + n) e ∙ shr_split rest w in
    let q : 2 ^ (taken + w) ≡ 2 ^ taken * 2 ^ w = pow-add 2 taken w in
    record {
      sum = r.sum ∙ ap (λ n. n * 2 ^ taken + word) (sym d) ∙ parts (rest / 2 ^ w) (2 ^ w) (2 ^ taken) part word ∙ ap (λ n. rest / 2 ^ w * n + (part * 2 ^ taken + word)) (sym q) ∙ ap (λ n. rest / 2 ^ w * 2 ^ (taken + w) + n) (sym s.sum);
      below = subst (λ n. n < 2 ^ (taken + w)) (sym s.sum) s.below;
    }
  where
    parts : (h a b p x : ℕ) → (h * a + p) * b + x ≡ h * (b * a) + (p * b + x)
    parts h a b p x = omega arith

-- all that was asked for is read
pub word_read : (number rest word n : ℕ) → IsRead number rest word n → word ≡ number % 2 ^ n
word_read number rest word n r = sym (ap (λ x. x % 2 ^ n) r.sum ∙ mod_low rest n word r.below)

pub rest_read : (number rest word n : ℕ) → IsRead number rest word n → rest ≡ number / 2 ^ n
rest_read number rest word n r = sym (ap (λ x. x / 2 ^ n) r.sum ∙ shr_high rest n word r.below)

-- or nothing is left
pub end_read : (number word taken n : ℕ) → IsRead number 0 word taken → taken ≤ n → IsRead number 0 word n
end_read number word taken n r le =
    let z : 0 * 2 ^ taken + word ≡ 0 * 2 ^ n + word = omega arith in
    record { sum = r.sum ∙ z; below = low (2 ^ taken) (2 ^ n) r.below (pow-le-pow_right {n = 2} (lit< tt) {i = taken} {j = n} le) }
  where
    low : (a b : ℕ) → word < a → a ≤ b → word < b
    low a b lt le = omega (arith, lt, le)

-- ---- a field that is read from its least digit on

-- its lowest digits
pub run_word : (x at left n : ℕ) → n ≤ left → x / 2 ^ at % 2 ^ n ≡ x / 2 ^ at % 2 ^ left % 2 ^ n
run_word x at left n le =
    let e : left - n + n ≡ left = omega arith in
    sym (ap (λ k. x / 2 ^ at % 2 ^ k % 2 ^ n) (sym e) ∙ mod-mod-pow (x / 2 ^ at) (left - n) n)

-- and those above
pub run_rest : (x at left n : ℕ) → n ≤ left → x / 2 ^ (at + n) % 2 ^ (left - n) ≡ x / 2 ^ at % 2 ^ left / 2 ^ n
run_rest x at left n le =
    let e : left - n + n ≡ left = omega arith in
    ap (λ y. y % 2 ^ (left - n)) (sym (shr-shr x at n)) ∙ sym (field (x / 2 ^ at) (left - n) n) ∙ ap (λ k. x / 2 ^ at % 2 ^ k / 2 ^ n) e

-- all of them
pub run_below : (x at left n : ℕ) → left < n → x / 2 ^ at % 2 ^ left < 2 ^ n
run_below x at left n lt =
    let p : 2 ^ left ≤ 2 ^ n = pow-le-pow_right {n = 2} (lit< tt) {i = left} {j = n} (omega (arith, lt)) in
    let b : x / 2 ^ at % 2 ^ left < 2 ^ left = mod_below (x / 2 ^ at) (2 ^ left) (pow_pos left) in
    omega (arith, p, b)
