-- What cells that select give.
use Rattle.std.proofs.Common.{◌≡◌, ℕ, zero, suc, ◌+◌, ◌-◌, ◌*◌, ◌/◌, ◌%◌, ◌^◌, ◌<◌, ◌≤◌, min, refl, sym, ◌∙◌, ap, subst, arith, inl, inr, Bool, true, false, cond, bit_and, bit_xor, lit<}
use Rattle.std.proofs.Math.Nat.{mod-eq_of_lt, pow-le-pow_right, add-mul-mod_self_right, zero-mod}
use Rattle.std.proofs.lemmas.Bool.{cases_lt, and_parts, cond-false}
use Rattle.std.proofs.lemmas.Nat.{mod-pow-add, mod_below, mod_low, shr_high, pow_pos, pow-add, xor_mod, and_mod}
use Rattle.std.proofs.lemmas.Nat.Bits.{bit_at-lt, bit_at_and, bit_at_xor}
use Rattle.std.specs.Int.{bit_at}
use Rattle.std.specs.Prelude.{◌==◌}
use Rattle.circuit.specs.Signal.{Digits, gathered, sig_number, sig_width}
use Rattle.circuit.specs.Output.{chosen_bit, equal_bit, cell_inputs, lowest_from, output}
use Rattle.circuit.specs.Valid.{widths_fit, widths_of}
use Rattle.circuit.specs.declared.cell.Cell.{Cell}
use Rattle.circuit.specs.declared.cell.Op.TheVariants as op
use Rattle.circuit.proofs.Same.{gathered_same}
use Rattle.sim_base.proofs.Field.{bit_at_mod}
use Rattle.sim_base.proofs.Parts.{whole_field}
use Rattle.signal_words.proofs.Numbers.{field_gathered}
use Rattle.signal_words.proofs.Told.{eq_from}
use Rattle.cell_wide.specs.Words.{low_of_number, low_of_fill, low_of_chain}
use Rattle.cell_wide.proofs.Outputs.{output_of}

-- ---- places

pub lowest_most : (bits i n : ℕ) → lowest_from bits i n ≤ i + bits
unfolding lowest_from
lowest_most zero i n = omega arith
lowest_most (suc bits) i n =
    let t : lowest_from bits (suc i) n ≤ suc i + bits = lowest_most bits (suc i) n in
    either (bit_at n i == 1) i (lowest_from bits (suc i) n) (i + suc bits) (omega arith) (omega (arith, t))
  where
    either : (t : Bool) (a b c : ℕ) → a ≤ c → b ≤ c → cond t a b ≤ c
    either true a b c l r = l
    either false a b c l r = r

pub selector_small : (width s : ℕ) → (width ≡ 0 → ⊥) → width * 2 ^ s ≤ 65536 → s ≤ 64
selector_small zero s some le = absurd (some refl)
selector_small (suc width) s some le = elim (cases_lt 64 s) [
  | inl a ↦
      (let p : 2 ^ 64 ≤ 2 ^ s = pow-le-pow_right {n = 2} (lit< tt) {i = 64} {j = s} (omega arith) in
      let e : suc width * 2 ^ s ≡ width * 2 ^ s + 2 ^ s = omega arith in
      absurd (omega (arith, le, p, e)))
  | inr b ↦ b
]

-- ---- parts

pub part_output : (w at x : ℕ) → x / 2 ^ at % 2 ^ w ≡ x / 2 ^ at % 2 ^ w % 2 ^ w
part_output w at x = sym (mod-eq_of_lt (mod_below (x / 2 ^ at) (2 ^ w) (pow_pos w)))

pub pmux_output : (digits : Digits) (c : Cell) (w at : ℕ) → c.op ≡ op.Pmux → w ≡ c.width → (sig_number digits c.s == 0) ≡ false → at ≡ c.width * lowest_from (sig_width c.s) 0 (sig_number digits c.s) → sig_number digits c.b / 2 ^ at % 2 ^ w ≡ output digits c
pmux_output digits c w at is width some place =
    ap (λ k. sig_number digits c.b / 2 ^ k % 2 ^ w) place ∙ ap (λ k. sig_number digits c.b / 2 ^ (c.width * lowest_from (sig_width c.s) 0 (sig_number digits c.s)) % 2 ^ k) width
    ∙ part_output c.width (c.width * lowest_from (sig_width c.s) 0 (sig_number digits c.s)) (sig_number digits c.b)
    ∙ ap (λ x. x % 2 ^ c.width) (sym (cond-false (sig_number digits c.s == 0) (sig_number digits c.a) (sig_number digits c.b / 2 ^ (c.width * lowest_from (sig_width c.s) 0 (sig_number digits c.s)) % 2 ^ c.width) some))
    ∙ output_of digits c op.Pmux is

pub bmux_output : (digits : Digits) (c : Cell) (w at : ℕ) → c.op ≡ op.Bmux → w ≡ c.width → (0 < c.width → at ≡ c.width * sig_number digits c.s) → sig_number digits c.a / 2 ^ at % 2 ^ w ≡ output digits c
bmux_output digits c w at is width place = ap (λ k. sig_number digits c.a / 2 ^ at % 2 ^ k) width ∙ taken c.width place ∙ output_of digits c op.Bmux is
  where
    taken : (width : ℕ) → (0 < width → at ≡ width * sig_number digits c.s) → sig_number digits c.a / 2 ^ at % 2 ^ width ≡ sig_number digits c.a / 2 ^ (width * sig_number digits c.s) % 2 ^ width % 2 ^ width
    taken zero place = omega arith
    taken (suc width) place =
        ap (λ k. sig_number digits c.a / 2 ^ k % 2 ^ suc width) (place (omega arith)) ∙ part_output (suc width) (suc width * sig_number digits c.s) (sig_number digits c.a)

-- ---- one number above another

pub chain_number : (a b l w : ℕ) → a < 2 ^ l → low_of_chain (low_of_number a) l (low_of_number b) w ≡ (a + b * 2 ^ l) % 2 ^ w
chain_number a b l w lt = elim (cases_lt l w) [
  | inl m ↦
      (let e : w ≡ w - l + l = omega arith in
      let k : min w l ≡ l = omega arith in
      let s : a + b * 2 ^ l ≡ b * 2 ^ l + a = omega arith in
      ap (λ x. b % 2 ^ (w - l) * 2 ^ x + a % 2 ^ x) k ∙ ap (λ x. b % 2 ^ (w - l) * 2 ^ l + x) (mod-eq_of_lt lt)
      ∙ sym (ap (λ x. x % 2 ^ w) s ∙ ap (λ x. (b * 2 ^ l + a) % 2 ^ x) e ∙ mod-pow-add (b * 2 ^ l + a) (w - l) l
      ∙ ap (λ x. x % 2 ^ (w - l) * 2 ^ l + (b * 2 ^ l + a) % 2 ^ l) (shr_high b l a lt) ∙ ap (λ x. b % 2 ^ (w - l) * 2 ^ l + x) (mod_low b l a lt)))
  | inr m ↦
      (let e : l ≡ l - w + w = omega arith in
      let k : min w l ≡ w = omega arith in
      let z : w - l ≡ 0 = omega arith in
      let p : b * 2 ^ l ≡ b * 2 ^ (l - w) * 2 ^ w = ap (λ x. b * 2 ^ x) e ∙ ap (λ x. b * x) (pow-add 2 (l - w) w) ∙ regroup b (2 ^ (l - w)) (2 ^ w) in
      let one : b % 2 ^ 0 ≡ 0 = omega arith in
      let none : 0 * 2 ^ w + a % 2 ^ w ≡ a % 2 ^ w = omega arith in
      ap (λ x. b % 2 ^ (w - l) * 2 ^ x + a % 2 ^ x) k ∙ ap (λ x. b % 2 ^ x * 2 ^ w + a % 2 ^ w) z ∙ ap (λ x. x * 2 ^ w + a % 2 ^ w) one ∙ none
      ∙ sym (ap (λ x. (a + x) % 2 ^ w) p ∙ add-mul-mod_self_right a (b * 2 ^ (l - w)) (2 ^ w)))
]
  where
    regroup : (a b c : ℕ) → a * (b * c) ≡ a * b * c
    regroup a b c = omega arith

pub concat_output : (digits : Digits) (c : Cell) (w l : ℕ) → c.op ≡ op.Concat → w ≡ c.width → l ≡ sig_width c.a → sig_number digits c.a < 2 ^ sig_width c.a → low_of_chain (low_of_number (sig_number digits c.a)) l (low_of_number (sig_number digits c.b)) w ≡ output digits c
concat_output digits c w l is width long lt =
    ap (λ k. low_of_chain (low_of_number (sig_number digits c.a)) k (low_of_number (sig_number digits c.b)) w) long ∙ chain_number (sig_number digits c.a) (sig_number digits c.b) (sig_width c.a) w lt
    ∙ ap (λ k. (sig_number digits c.a + sig_number digits c.b * 2 ^ sig_width c.a) % 2 ^ k) width ∙ output_of digits c op.Concat is

pub demux_output : (digits : Digits) (c : Cell) (w l : ℕ) → c.op ≡ op.Demux → w ≡ c.width → c.width ≡ sig_width c.a * 2 ^ sig_width c.s → (0 < sig_width c.a → l ≡ sig_width c.a * sig_number digits c.s) → low_of_chain (low_of_fill false) l (low_of_number (sig_number digits c.a)) w ≡ output digits c
demux_output digits c w l is width wide place =
    same ∙ chain_number 0 (sig_number digits c.a) l w (pow_pos l) ∙ (let z : 0 + sig_number digits c.a * 2 ^ l ≡ sig_number digits c.a * 2 ^ l = omega arith in ap (λ x. x % 2 ^ w) z)
    ∙ ap (λ k. sig_number digits c.a * 2 ^ l % 2 ^ k) width ∙ moved (sig_width c.a) wide place ∙ output_of digits c op.Demux is
  where
    same : low_of_chain (low_of_fill false) l (low_of_number (sig_number digits c.a)) w ≡ low_of_chain (low_of_number 0) l (low_of_number (sig_number digits c.a)) w
    same = ap (λ x. low_of_number (sig_number digits c.a) (w - l) * 2 ^ min w l + x) (sym (zero-mod (2 ^ min w l)))

    moved : (long : ℕ) → c.width ≡ long * 2 ^ sig_width c.s → (0 < long → l ≡ long * sig_number digits c.s) → sig_number digits c.a * 2 ^ l % 2 ^ c.width ≡ sig_number digits c.a * 2 ^ (long * sig_number digits c.s) % 2 ^ c.width
    moved zero wide place =
        let none : c.width ≡ 0 = omega (arith, wide) in
        ap (λ k. sig_number digits c.a * 2 ^ l % 2 ^ k) none ∙ (let z : sig_number digits c.a * 2 ^ l % 2 ^ 0 ≡ sig_number digits c.a * 2 ^ (0 * sig_number digits c.s) % 2 ^ 0 = omega arith in z) ∙ ap (λ k. sig_number digits c.a * 2 ^ (0 * sig_number digits c.s) % 2 ^ k) (sym none)
    moved (suc long) wide place = ap (λ k. sig_number digits c.a * 2 ^ k % 2 ^ c.width) (place (omega arith))

-- ---- bit by bit

number_gathered : (x w : ℕ) → x < 2 ^ w → gathered (λ j. bit_at x (0 + j)) w ≡ x
number_gathered x w lt = sym (field_gathered x 0 w) ∙ whole_field x w lt

chosen_digit : (a b s : ℕ) → a < 2 → b < 2 → s < 2 → cond (s == 1) b a ≡ (a + min ((a + b) % 2) s) % 2
chosen_digit a b zero la lb ls = let m : min ((a + b) % 2) 0 ≡ 0 = omega arith in rw m (omega (arith, la))
chosen_digit a b (suc zero) la lb ls = let m : min ((a + b) % 2) 1 ≡ (a + b) % 2 = omega arith in rw m (omega (arith, la, lb))
chosen_digit a b (suc (suc s)) la lb ls = absurd (omega (arith, ls))

pub bwmux_output : (digits : Digits) (c : Cell) (w a b s : ℕ) → c.op ≡ op.Bwmux → w ≡ c.width → a ≡ sig_number digits c.a → b ≡ sig_number digits c.b → s ≡ sig_number digits c.s
    → bit_xor (a % 2 ^ w) (bit_and (bit_xor (a % 2 ^ w) (b % 2 ^ w)) (s % 2 ^ w)) ≡ output digits c
bwmux_output digits c w a b s is width ea eb es =
    let x = bit_xor a (bit_and (bit_xor a b) s) in
    let whole : bit_xor (a % 2 ^ w) (bit_and (bit_xor (a % 2 ^ w) (b % 2 ^ w)) (s % 2 ^ w)) ≡ x % 2 ^ w =
    sym (xor_mod a (bit_and (bit_xor a b) s) w ∙ ap (bit_xor (a % 2 ^ w)) (and_mod (bit_xor a b) s w ∙ ap (λ y. bit_and y (s % 2 ^ w)) (xor_mod a b w))) in
    let lt : x % 2 ^ w < 2 ^ w = mod_below x (2 ^ w) (pow_pos w) in
    let g : gathered (chosen_bit (cell_inputs digits c)) w ≡ x % 2 ^ w =
    gathered_same w (chosen_bit (cell_inputs digits c)) (λ j. bit_at (x % 2 ^ w) (0 + j)) (λ j l.
    ap (λ n. cond (bit_at n j == 1) (bit_at (sig_number digits c.b) j) (bit_at (sig_number digits c.a) j)) (sym es)
    ∙ ap (λ n. cond (bit_at s j == 1) (bit_at n j) (bit_at (sig_number digits c.a) j)) (sym eb) ∙ ap (λ n. cond (bit_at s j == 1) (bit_at b j) (bit_at n j)) (sym ea)
    ∙ chosen_digit (bit_at a j) (bit_at b j) (bit_at s j) (bit_at-lt a j) (bit_at-lt b j) (bit_at-lt s j)
    ∙ sym ((let z : 0 + j ≡ j = omega arith in ap (bit_at (x % 2 ^ w)) z) ∙ bit_at_mod x w j l ∙ bit_at_xor a (bit_and (bit_xor a b) s) j
    ∙ ap (λ y. (bit_at a j + y) % 2) (bit_at_and (bit_xor a b) s j ∙ ap (λ y. min y (bit_at s j)) (bit_at_xor a b j))))
    ∙ number_gathered (x % 2 ^ w) w lt in
    whole ∙ sym (mod-eq_of_lt lt) ∙ ap (λ y. y % 2 ^ w) (sym g) ∙ ap (λ k. gathered (chosen_bit (cell_inputs digits c)) k % 2 ^ k) width ∙ output_of digits c op.Bwmux is

gathered_other : (w : ℕ) (d e : ℕ → ℕ) → ((j : ℕ) → d j + e j ≡ 1) → gathered d w + gathered e w ≡ 2 ^ w - 1
unfolding gathered
gathered_other zero d e h = refl
gathered_other (suc w) d e h =
    let t : gathered d w + gathered e w ≡ 2 ^ w - 1 = gathered_other w d e h in
    let one : suc w ≡ 1 + w = omega arith in
    let q : 2 ^ suc w ≡ 2 ^ 1 * 2 ^ w = ap (λ k. 2 ^ k) one ∙ pow-add 2 1 w in
    sum (d w) (e w) (gathered d w) (gathered e w) (2 ^ w) (h w) ∙ ap (λ x. 2 ^ w + x) t ∙ omega (arith, q, pow_pos w)
  where
    sum : (a b x y p : ℕ) → a + b ≡ 1 → a * p + x + (b * p + y) ≡ p + (x + y)
    sum zero b x y p e = let one : b ≡ 1 = omega (arith, e) in rw one (omega arith)
    sum (suc zero) b x y p e = let none : b ≡ 0 = omega (arith, e) in rw none (omega arith)
    sum (suc (suc a)) b x y p e = absurd (omega (arith, e))

equal_digit : (a b : ℕ) → a < 2 → b < 2 → cond (a == b) 1 0 + (a + b) % 2 ≡ 1
equal_digit zero zero l k = refl
equal_digit zero (suc zero) l k = refl
equal_digit (suc zero) zero l k = refl
equal_digit (suc zero) (suc zero) l k = refl
equal_digit zero (suc (suc b)) l k = absurd (omega (arith, k))
equal_digit (suc zero) (suc (suc b)) l k = absurd (omega (arith, k))
equal_digit (suc (suc a)) b l k = absurd (omega (arith, l))

pub bweqx_output : (digits : Digits) (c : Cell) (w a b : ℕ) → c.op ≡ op.Bweqx → w ≡ c.width → a ≡ sig_number digits c.a → b ≡ sig_number digits c.b → (2 ^ w - 1) - bit_xor (a % 2 ^ w) (b % 2 ^ w) ≡ output digits c
bweqx_output digits c w a b is width ea eb =
    let i = cell_inputs digits c in
    let x = bit_xor (sig_number digits c.a) (sig_number digits c.b) in
    let lt : x % 2 ^ w < 2 ^ w = mod_below x (2 ^ w) (pow_pos w) in
    let whole : bit_xor (a % 2 ^ w) (b % 2 ^ w) ≡ x % 2 ^ w =
    sym (xor_mod a b w) ∙ ap (λ n. bit_xor n b % 2 ^ w) ea ∙ ap (λ n. bit_xor (sig_number digits c.a) n % 2 ^ w) eb in
    let g : gathered (bit_at x) w ≡ x % 2 ^ w =
    gathered_same w (bit_at x) (λ j. bit_at (x % 2 ^ w) (0 + j)) (λ j l. sym ((let z : 0 + j ≡ j = omega arith in ap (bit_at (x % 2 ^ w)) z) ∙ bit_at_mod x w j l)) ∙ number_gathered (x % 2 ^ w) w lt in
    let s : gathered (equal_bit i) w + gathered (bit_at x) w ≡ 2 ^ w - 1 =
    gathered_other w (equal_bit i) (bit_at x) (λ j. ap (λ y. equal_bit i j + y) (bit_at_xor (sig_number digits c.a) (sig_number digits c.b) j)
    ∙ equal_digit (bit_at (sig_number digits c.a) j) (bit_at (sig_number digits c.b) j) (bit_at-lt (sig_number digits c.a) j) (bit_at-lt (sig_number digits c.b) j)) in
    let e : (2 ^ w - 1) - x % 2 ^ w ≡ gathered (equal_bit i) w = omega (arith, s, g) in
    let below : gathered (equal_bit i) w < 2 ^ w = omega (arith, e, pow_pos w) in
    ap (λ y. (2 ^ w - 1) - y) whole ∙ e ∙ sym (mod-eq_of_lt below) ∙ ap (λ k. gathered (equal_bit i) k % 2 ^ k) width ∙ output_of digits c op.Bweqx is

-- ---- widths

pub demux_width : (c : Cell) → c.op ≡ op.Demux → widths_fit c.op (widths_of c) ≡ true → c.width ≡ sig_width c.a * 2 ^ sig_width c.s
demux_width c is f =
    let t = and_parts (c.width == sig_width c.a * 2 ^ sig_width c.s) (sig_width c.b == 0) (subst (λ o. widths_fit o (widths_of c) ≡ true) is f) in eq_from c.width (sig_width c.a * 2 ^ sig_width c.s) t.0
