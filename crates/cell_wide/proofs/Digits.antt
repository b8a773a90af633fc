-- One step of numbers that are given by their digits.
use Rattle.std.proofs.Common.{◌≡◌, ℕ, zero, suc, ◌+◌, ◌-◌, ◌*◌, ◌/◌, ◌%◌, ◌^◌, ◌<◌, ◌≤◌, min, sym, ◌∙◌, ap, arith, true}
use Rattle.std.proofs.lemmas.Nat.{mod-pow-add, pow-add, pow_pos, and_block, or_block, xor_block}
use Rattle.cell_wide.specs.Words.{Passes, low_of_number, low_of_fill, low_of_chain, low_of_inverse, combined}
use Rattle.cell_wide.specs.declared.words.Bitwise.{Bitwise}
use Rattle.cell_wide.specs.declared.words.Bitwise.TheVariants as by

pub number_passes : (number n : ℕ) → Passes (low_of_number number) n (number % 2 ^ n) (low_of_number (number / 2 ^ n))
number_passes number n w = let e : n + w ≡ w + n = omega arith in ap (λ k. number % 2 ^ k) e ∙ mod-pow-add number w n

pub fill_passes : (n : ℕ) → Passes (low_of_fill true) n (2 ^ n - 1) (low_of_fill true)
fill_passes n w = ap (λ x. x - 1) (pow-add 2 n w) ∙ parts (2 ^ n) (2 ^ w) (pow_pos n) (pow_pos w)
  where
    parts : (a b : ℕ) → 0 < a → 0 < b → a * b - 1 ≡ (b - 1) * a + (a - 1)
    parts a zero la lb = absurd (omega arith)
    parts a (suc b) la lb =
        let e : a * suc b ≡ b * a + a = omega arith in
        let k : suc b - 1 ≡ b = omega arith in
        rw (e, k) (omega (arith, la))

-- the complement of a number in two parts
pub complement : (a b h r : ℕ) → h < b → r < a → (a * b - 1) - (h * a + r) ≡ ((b - 1) - h) * a + ((a - 1) - r)
complement a b h r lh lr =
    let d : b ≡ suc h + (b - suc h) = omega (arith, lh) in
    let k : (b - 1) - h ≡ b - suc h = omega arith in
    let e : a * b ≡ a + h * a + (b - suc h) * a = ap (λ x. a * x) d ∙ spread a h (b - suc h) in
    rw k (omega (arith, e, lr))
  where
    spread : (a h c : ℕ) → a * (suc h + c) ≡ a + h * a + c * a
    spread a h c = omega arith

pub inverse_passes : (low next : ℕ → ℕ) (n result : ℕ) → Passes low n result next → result < 2 ^ n → ((w : ℕ) → next w < 2 ^ w) → Passes (low_of_inverse low) n ((2 ^ n - 1) - result) (low_of_inverse next)
inverse_passes low next n result p r b w =
    ap (λ x. (x - 1) - low (n + w)) (pow-add 2 n w) ∙ ap (λ x. (2 ^ n * 2 ^ w - 1) - x) (p w) ∙ complement (2 ^ n) (2 ^ w) (next w) result (b w) r

pub combined_passes : (op : Bitwise) (low high nlow nhigh : ℕ → ℕ) (n r s : ℕ) → Passes low n r nlow → Passes high n s nhigh → r < 2 ^ n → s < 2 ^ n → Passes (λ w. combined op (low w) (high w)) n (combined op r s) (λ w. combined op (nlow w) (nhigh w))
combined_passes by.And low high nlow nhigh n r s p q lr ls w = ap (λ x. combined by.And x (high (n + w))) (p w) ∙ ap (λ x. combined by.And (nlow w * 2 ^ n + r) x) (q w) ∙ and_block n (nlow w) (nhigh w) r s lr ls
combined_passes by.Or low high nlow nhigh n r s p q lr ls w = ap (λ x. combined by.Or x (high (n + w))) (p w) ∙ ap (λ x. combined by.Or (nlow w * 2 ^ n + r) x) (q w) ∙ or_block n (nlow w) (nhigh w) r s lr ls
combined_passes by.Xor low high nlow nhigh n r s p q lr ls w = ap (λ x. combined by.Xor x (high (n + w))) (p w) ∙ ap (λ x. combined by.Xor (nlow w * 2 ^ n + r) x) (q w) ∙ xor_block n (nlow w) (nhigh w) r s lr ls

-- ---- one number below another

module _ (low next high : ℕ → ℕ) (left n r : ℕ) (p : Passes low n r next) where
  pub low_passes : n ≤ left → Passes (low_of_chain low left high) n r (low_of_chain next (left - n) high)
  low_passes le w =
      let above : n + w - left ≡ w - (left - n) = omega arith in
      let under : min (n + w) left ≡ n + min w (left - n) = omega (arith, le) in
      let q : 2 ^ (n + min w (left - n)) ≡ 2 ^ n * 2 ^ min w (left - n) = pow-add 2 n (min w (left - n)) in
      ap (λ k. high k * 2 ^ min (n + w) left + low (min (n + w) left)) above
      ∙ ap (λ k. high (w - (left - n)) * 2 ^ k + low k) under
      ∙ ap (λ x. high (w - (left - n)) * x + low (n + min w (left - n))) q
      ∙ ap (λ x. high (w - (left - n)) * (2 ^ n * 2 ^ min w (left - n)) + x) (p (min w (left - n)))
      ∙ parts (high (w - (left - n))) (2 ^ n) (2 ^ min w (left - n)) (next (min w (left - n)))
    where
      parts : (h a b x : ℕ) → h * (a * b) + (x * a + r) ≡ (h * b + x) * a + r
      parts h a b x = omega arith

module _ (low gone high next : ℕ → ℕ) (left n r s : ℕ) (first : r ≡ low left) (p : Passes high (n - left) s next) (none : gone 0 < 2 ^ 0) (le : left ≤ n) where
  pub across_passes : Passes (low_of_chain low left high) n (s * 2 ^ left + r) (low_of_chain gone 0 next)
  across_passes w =
      let above : n + w - left ≡ n - left + w = omega (arith, le) in
      let under : min (n + w) left ≡ left = omega (arith, le) in
      let all : n ≡ left + (n - left) = omega (arith, le) in
      let whole : w - 0 ≡ w = omega arith in
      let nothing : min w 0 ≡ 0 = omega arith in
      let zero : gone 0 ≡ 0 = omega (arith, none) in
      let q : 2 ^ n ≡ 2 ^ left * 2 ^ (n - left) = ap (λ k. 2 ^ k) all ∙ pow-add 2 left (n - left) in
      ap (λ k. high k * 2 ^ min (n + w) left + low (min (n + w) left)) above
      ∙ ap (λ k. high (n - left + w) * 2 ^ k + low k) under
      ∙ ap (λ x. x * 2 ^ left + low left) (p w)
      ∙ ap (λ x. (next w * 2 ^ (n - left) + s) * 2 ^ left + x) (sym first)
      ∙ parts (next w) (2 ^ (n - left)) (2 ^ left)
      ∙ ap (λ x. next w * x + (s * 2 ^ left + r)) (sym q)
      ∙ sym (ap (λ k. (next k * 2 ^ min w 0 + gone (min w 0)) * 2 ^ n + (s * 2 ^ left + r)) whole
      ∙ ap (λ k. (next w * 2 ^ k + gone k) * 2 ^ n + (s * 2 ^ left + r)) nothing
      ∙ ap (λ x. (next w * 2 ^ 0 + x) * 2 ^ n + (s * 2 ^ left + r)) zero ∙ last (next w) (2 ^ n))
    where
      parts : (h a b : ℕ) → (h * a + s) * b + r ≡ h * (b * a) + (s * b + r)
      parts h a b = omega arith

      last : (h a : ℕ) → (h * 2 ^ 0 + 0) * a + (s * 2 ^ left + r) ≡ h * a + (s * 2 ^ left + r)
      last h a = omega arith

  pub across_word : s ≡ high (n - left) → s * 2 ^ left + r ≡ low_of_chain low left high n
  across_word e =
      let under : min n left ≡ left = omega (arith, le) in
      ap (λ x. x * 2 ^ left + r) e ∙ ap (λ x. high (n - left) * 2 ^ left + x) first ∙ sym (ap (λ k. high (n - left) * 2 ^ k + low k) under)
