-- Words that show a number below a power of 2.
use Rattle.std.proofs.Common.{◌≡◌, ℕ, ◌+◌, ◌-◌, ◌*◌, ◌%◌, ◌^◌, ◌<◌, ◌≤◌, List, [], ◌∷◌, length, get_or, take, drop, nat_lt, true, sym, ap, ◌∙◌, inl, inr, arith}
use Rattle.std.proofs.lemmas.Bool.{cases_lt, lt-ltb, le-ltb}
use Rattle.std.proofs.lemmas.List.{take_all}
use Rattle.std.proofs.lemmas.Nat.{pow-add, pow_below}
use Rattle.std.proofs.Math.Nat.{mod-eq_of_lt}
use Rattle.sim_base.specs.Shape.{words_of_width}
use Rattle.spool_format.specs.Records.{slot_number}

number_rest : (w m n power width : ℕ) → w < 2 ^ 32 → power ≡ n * 2 ^ 32 → nat_lt m n ≡ nat_lt (m * 2 ^ 32 + w) power
number_rest w m n power width small is_power = elim (cases_lt m n) [
  | inl less ↦
      let more : m * 2 ^ 32 + w < power = omega (arith, is_power) in
      lt-ltb m n less ∙ sym (lt-ltb (m * 2 ^ 32 + w) power more)
  | inr most ↦
      let least : power ≤ m * 2 ^ 32 + w = omega (arith, is_power) in
      le-ltb m n most ∙ sym (le-ltb (m * 2 ^ 32 + w) power least)
]

power_split : (width : ℕ) → 32 ≤ width → 2 ^ width ≡ 2 ^ (width - 32) * 2 ^ 32
power_split width wide =
    let parts : width ≡ (width - 32) + 32 = omega arith in
    ap (λ k. 2 ^ k) parts ∙ pow-add 2 (width - 32) 32

pub below_rest : (ws : List ℕ) (width : ℕ) → 1 ≤ length ws → get_or ws 0 0 < 2 ^ 32 → 32 ≤ width
    → nat_lt (slot_number (take (length ws - 1) (drop 1 ws))) (2 ^ (width - 32)) ≡ nat_lt (slot_number ws) (2 ^ width)
unfolding slot_number
below_rest [] width some small wide = absurd (omega arith)
below_rest (w ∷ ws) width some small wide =
    ap (λ rest. nat_lt (slot_number rest) (2 ^ (width - 32))) (take_all (length (w ∷ ws) - 1) ws (omega arith))
    ∙ number_rest w (slot_number ws) (2 ^ (width - 32)) (2 ^ width) width small (power_split width wide)

pub below_first : (ws : List ℕ) (width : ℕ) → length ws ≡ words_of_width width → 1 ≤ length ws → width < 32
    → nat_lt (get_or ws 0 0) (2 ^ width) ≡ nat_lt (slot_number ws) (2 ^ width)
unfolding slot_number
below_first [] width room some narrow = absurd (omega arith)
below_first (w ∷ []) width room some narrow = let one : w ≡ 0 * 2 ^ 32 + w = omega arith in ap (λ n. nat_lt n (2 ^ width)) one
below_first (w ∷ v ∷ ws) width room some narrow = absurd (omega (arith, room))

pub below_none : (ws : List ℕ) (width : ℕ) → length ws ≡ words_of_width width → length ws < 1 → true ≡ nat_lt (slot_number ws) (2 ^ width)
unfolding slot_number
below_none [] width room none = let no_width : width ≡ 0 = omega (arith, room) in ap (λ k. nat_lt 0 (2 ^ k)) (sym no_width)
below_none (w ∷ ws) width room none = absurd (omega arith)

pub power_kept : (width : ℕ) → width < 32 → 1 * 2 ^ width % 18446744073709551616 ≡ 2 ^ width
power_kept width narrow =
    let within : 2 ^ width < 2 ^ 64 = pow_below width 64 (omega arith) in
    let one : 1 * 2 ^ width ≡ 2 ^ width = omega arith in
    ap (λ n. n % 18446744073709551616) one ∙ mod-eq_of_lt within
