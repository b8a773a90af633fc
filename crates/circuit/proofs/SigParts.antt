-- Bits of a signal, so many from one on.
use Rattle.std.proofs.Common.{◌≡◌, ◌≢◌, ℕ, zero, suc, ◌+◌, ◌-◌, ◌*◌, ◌/◌, ◌%◌, ◌^◌, ◌<◌, ◌≤◌, min, eqb, leb, cond, List, [], ◌∷◌, slice_get, Option, Some, None, true, ◌==◌, refl, sym, ◌∙◌, ap, subst, arith, inl, inr}
use Rattle.std.specs.Int.{bit_at}
use Rattle.std.specs.List.{list_all}
use Rattle.std.proofs.Math.Nat.{zero-div, zero-mod}
use Rattle.std.proofs.lemmas.Bool.{cases_lt, cond-true, cond-false, and_parts, and_from, leb-true, le-leb, eq-eqb}
use Rattle.std.proofs.lemmas.Bool.Decides.{eqb_tells}
use Rattle.std.proofs.lemmas.List.Sums.{sum_by-cons}
use Rattle.std.proofs.lemmas.Nat.{shr-shr, shr_high, mod-pow-add, mod_below, pow_pos}
use Rattle.std.proofs.lemmas.Nat.Bits.{same_from_bits_below}
use Rattle.sim_base.specs.BitValue.{BitValue, bit_value}
use Rattle.sim_base.proofs.Field.{bit_at_mod, bit_at_shr}
use Rattle.sim_base.proofs.Parts.{high_part, low_field}
use Rattle.circuit.specs.Below.{AreConstantsBelow, IsBelow}
use Rattle.circuit.specs.Signal.{AreBits, Digits, gathered, piece_number, piece_part, piece_width, sig_number, sig_part, sig_width}
use Rattle.circuit.specs.Valid.{piece_fits, reaches, sig_fits, sig_of, widest}
use Rattle.circuit.specs.declared.netlist.Net.{Net}
use Rattle.circuit.specs.declared.netlist.Piece.{Piece}
use Rattle.circuit.specs.declared.netlist.Piece.TheVariants as piece
use Rattle.circuit.proofs.Gathered.{gathered_below, gathered_bit}
use Rattle.circuit.proofs.Signals.{part_below}

-- ---- what is taken of the first piece, and what is left

abbrev taken : ℕ → ℕ → Piece → ℕ
taken at width p = min (piece_width p - at) width

abbrev left : ℕ → ℕ → Piece → List Piece → List Piece
left at width p ps = sig_part (at - piece_width p) (width - taken at width p) ps

part_step : (at width : ℕ) (p : Piece) (ps : List Piece) → sig_part at width (p ∷ ps) ≡ cond (eqb (taken at width p) 0) (left at width p ps) (piece_part at (taken at width p) p ∷ left at width p ps)
unfolding sig_part
part_step at width p ps = refl

-- what holds of all parts of signals: of none, and of one more piece that has a bit
module _ (P : List Piece → Type 0) (none : P []) (more : (at t : ℕ) (p : Piece) (ps : List Piece) → 0 < t → at + t ≤ piece_width p → P ps → P (piece_part at t p ∷ ps)) where
  part_has : (at width : ℕ) (ps : List Piece) → P (sig_part at width ps)
  unfolding sig_part
  part_has at width [] = none
  part_has at width (p ∷ ps) = elim (eqb_tells (taken at width p) 0) [
    | inl t ↦ subst P (sym (part_step at width p ps ∙ cond-true (eqb (taken at width p) 0) _ _ t.0)) (part_has (at - piece_width p) (width - taken at width p) ps)
    | inr f ↦
        (let ne : taken at width p ≢ 0 = f.1 in
        subst P (sym (part_step at width p ps ∙ cond-false (eqb (taken at width p) 0) _ _ f.0))
        (more at (taken at width p) p (left at width p ps) (omega arith) (omega arith) (part_has (at - piece_width p) (width - taken at width p) ps)))
  ]

-- ---- widths

part_width : (at width : ℕ) (p : Piece) → piece_width (piece_part at width p) ≡ width
part_width at width (piece.Const v) = refl
part_width at width (piece.Part net from all) = refl

pub width_of_part : (at width : ℕ) (ps : List Piece) → at + width ≤ sig_width ps → sig_width (sig_part at width ps) ≡ width
unfolding sig_part
width_of_part at width [] le = omega (arith, le)
width_of_part at width (p ∷ ps) le =
    let all : sig_width (p ∷ ps) ≡ piece_width p + sig_width ps = sum_by-cons piece_width p ps in
    let rest : sig_width (left at width p ps) ≡ width - taken at width p = width_of_part (at - piece_width p) (width - taken at width p) ps (omega (arith, le, all)) in
    elim (eqb_tells (taken at width p) 0) [
      | inl t ↦
          (let none : taken at width p ≡ 0 = t.1 in
          ap sig_width (part_step at width p ps ∙ cond-true (eqb (taken at width p) 0) _ _ t.0) ∙ rest ∙ (let e : width - taken at width p ≡ width = omega arith in e))
      | inr f ↦
          (let first : piece_width (piece_part at (taken at width p) p) ≡ taken at width p = part_width at (taken at width p) p in
          let cons = sum_by-cons piece_width (piece_part at (taken at width p) p) (left at width p ps) in
          ap sig_width (part_step at width p ps ∙ cond-false (eqb (taken at width p) 0) _ _ f.0) ∙ omega (arith, cons, first, rest))
    ]

-- ---- numbers

-- a part that begins behind the lowest digits, or has no digit
skipped : (s n w at width rest : ℕ) → n < 2 ^ w → min (w - at) width ≡ 0 → rest ≡ width → s / 2 ^ (at - w) % 2 ^ rest ≡ (s * 2 ^ w + n) / 2 ^ at % 2 ^ width
skipped s n w at width rest lt none same = elim (cases_lt at w) [
  | inl inside ↦
      (let no : width ≡ 0 = omega (arith, none) in
      let e : s / 2 ^ (at - w) % 2 ^ 0 ≡ 0 = omega arith in
      let f : (s * 2 ^ w + n) / 2 ^ at % 2 ^ 0 ≡ 0 = omega arith in
      ap (λ k. s / 2 ^ (at - w) % 2 ^ k) (same ∙ no) ∙ e ∙ sym f ∙ ap (λ k. (s * 2 ^ w + n) / 2 ^ at % 2 ^ k) (sym no))
  | inr behind ↦
      (let z : w + (at - w) ≡ at = omega arith in
      ap (λ k. s / 2 ^ (at - w) % 2 ^ k) same
      ∙ ap (λ m. m / 2 ^ (at - w) % 2 ^ width) (sym (shr_high s w n lt))
      ∙ ap (λ m. m % 2 ^ width) (shr-shr (s * 2 ^ w + n) w (at - w) ∙ ap (λ k. (s * 2 ^ w + n) / 2 ^ k) z))
]

-- a part that begins among the lowest digits
cut : (s n w at width t : ℕ) → n < 2 ^ w → t ≡ min (w - at) width → 0 < t → (s / 2 ^ (at - w) % 2 ^ (width - t)) * 2 ^ t + n / 2 ^ at % 2 ^ t ≡ (s * 2 ^ w + n) / 2 ^ at % 2 ^ width
cut s n w at width t lt is some =
    let whole : ℕ = s * 2 ^ w + n in
    let long : width - t + t ≡ width = omega (arith, is) in
    let low : whole / 2 ^ at % 2 ^ t ≡ n / 2 ^ at % 2 ^ t = low_field s w n at t (omega (arith, is, some)) in
    let first : at - w ≡ 0 = omega (arith, is, some) in
    let high : whole / 2 ^ at / 2 ^ t % 2 ^ (width - t) ≡ s / 2 ^ (at - w) % 2 ^ (width - t) = elim (cases_lt t width) [
      | inl less ↦
          (let all : at + t ≡ w = omega (arith, is, some) in
          let e : s / 2 ^ 0 ≡ s = omega arith in
          ap (λ m. m % 2 ^ (width - t)) (high_part s w n at t lt all ∙ sym e ∙ ap (λ k. s / 2 ^ k) (sym first)))
      | inr none ↦
          (let no : width - t ≡ 0 = omega arith in
          let e : whole / 2 ^ at / 2 ^ t % 2 ^ 0 ≡ 0 = omega arith in
          let f : s / 2 ^ (at - w) % 2 ^ 0 ≡ 0 = omega arith in
          ap (λ k. whole / 2 ^ at / 2 ^ t % 2 ^ k) no ∙ e ∙ sym f ∙ ap (λ k. s / 2 ^ (at - w) % 2 ^ k) (sym no))
    ] in
    sym (ap (λ k. whole / 2 ^ at % 2 ^ k) (sym long) ∙ mod-pow-add (whole / 2 ^ at) (width - t) t
    ∙ ap (λ m. m * 2 ^ t + whole / 2 ^ at % 2 ^ t) high ∙ ap (λ m. (s / 2 ^ (at - w) % 2 ^ (width - t)) * 2 ^ t + m) low)

number_cons : (d : Digits) (p : Piece) (ps : List Piece) → sig_number d (p ∷ ps) ≡ sig_number d ps * 2 ^ piece_width p + piece_number d p
unfolding sig_number
number_cons d p ps = refl

tail_below : (p : Piece) (ps : List Piece) → AreConstantsBelow (p ∷ ps) → AreConstantsBelow ps
tail_below p ps h i v at = h (suc i) v at

module _ (d : Digits) (small : AreBits d) where
  piece_below : (p : Piece) → ((v : BitValue) → p ≡ piece.Const v → IsBelow v) → piece_number d p < 2 ^ piece_width p
  piece_below (piece.Const v) h = h v refl
  piece_below (piece.Part net at w) h = part_below d small net at w

  part_number : (p : Piece) (at t : ℕ) → at + t ≤ piece_width p → piece_number d (piece_part at t p) ≡ piece_number d p / 2 ^ at % 2 ^ t
  part_number (piece.Const v) at t le = refl
  part_number (piece.Part net from w) at t le =
      same_from_bits_below t (gathered (λ j. d net (from + at + j)) t) (gathered (λ j. d net (from + j)) w / 2 ^ at % 2 ^ t)
      (gathered_below t (λ j. d net (from + at + j)) (λ j. small net (from + at + j)))
      (mod_below (gathered (λ j. d net (from + j)) w / 2 ^ at) (2 ^ t) (pow_pos t))
      (λ i lt.
      let z : from + at + i ≡ from + (at + i) = omega arith in
      gathered_bit t (λ j. d net (from + at + j)) (λ j. small net (from + at + j)) i lt ∙ ap (d net) z
      ∙ sym (bit_at_mod (gathered (λ j. d net (from + j)) w / 2 ^ at) t i lt ∙ bit_at_shr (gathered (λ j. d net (from + j)) w) at i
      ∙ gathered_bit w (λ j. d net (from + j)) (λ j. small net (from + j)) (at + i) (omega (arith, le, lt))))

  pub number_of_part : (at width : ℕ) (ps : List Piece) → AreConstantsBelow ps → sig_number d (sig_part at width ps) ≡ sig_number d ps / 2 ^ at % 2 ^ width
  unfolding sig_part sig_number
  number_of_part at width [] h = sym (ap (λ n. n % 2 ^ width) (zero-div (2 ^ at)) ∙ zero-mod (2 ^ width))
  number_of_part at width (p ∷ ps) h =
      let t : ℕ = taken at width p in
      let rest : sig_number d (left at width p ps) ≡ sig_number d ps / 2 ^ (at - piece_width p) % 2 ^ (width - t)
      = number_of_part (at - piece_width p) (width - t) ps (tail_below p ps h) in
      let lt : piece_number d p < 2 ^ piece_width p = piece_below p (λ v e. h 0 v (ap (λ (q : Piece). Some q) e)) in
      elim (eqb_tells (taken at width p) 0) [
        | inl none ↦
            (let no : taken at width p ≡ 0 = none.1 in
            ap (sig_number d) (part_step at width p ps ∙ cond-true (eqb (taken at width p) 0) _ _ none.0) ∙ rest
            ∙ skipped (sig_number d ps) (piece_number d p) (piece_width p) at width (width - taken at width p) lt no (omega arith))
        | inr some ↦
            (let ne : taken at width p ≢ 0 = some.1 in
            ap (sig_number d) (part_step at width p ps ∙ cond-false (eqb (taken at width p) 0) _ _ some.0)
            ∙ number_cons d (piece_part at (taken at width p) p) (left at width p ps)
            ∙ ap (λ k. sig_number d (left at width p ps) * 2 ^ k + piece_number d (piece_part at (taken at width p) p)) (part_width at (taken at width p) p)
            ∙ ap (λ m. m * 2 ^ taken at width p + piece_number d (piece_part at (taken at width p) p)) rest
            ∙ ap (λ m. (sig_number d ps / 2 ^ (at - piece_width p) % 2 ^ (width - taken at width p)) * 2 ^ taken at width p + m) (part_number p at (taken at width p) (omega arith))
            ∙ cut (sig_number d ps) (piece_number d p) (piece_width p) at width (taken at width p) lt refl (omega arith))
      ]

  pub bit_of_part : (at width i : ℕ) (ps : List Piece) → AreConstantsBelow ps → i < width → bit_at (sig_number d (sig_part at width ps)) i ≡ bit_at (sig_number d ps) (at + i)
  bit_of_part at width i ps h lt =
      ap (λ n. bit_at n i) (number_of_part at width ps h) ∙ bit_at_mod (sig_number d ps / 2 ^ at) width i lt ∙ bit_at_shr (sig_number d ps) at i

-- ---- each piece of a part

constant_more : (at t : ℕ) (p : Piece) (ps : List Piece) → AreConstantsBelow ps → AreConstantsBelow (piece_part at t p ∷ ps)
constant_more at t (piece.Const u) ps h zero v is =
    let same : bit_value t (u.number / 2 ^ at % 2 ^ t) ≡ v = cc is in
    subst IsBelow same (mod_below (u.number / 2 ^ at) (2 ^ t) (pow_pos t))
constant_more at t (piece.Part net from all) ps h zero v is = cc is
constant_more at t p ps h (suc i) v is = h i v is

pub constants_of_part : (at width : ℕ) (ps : List Piece) → AreConstantsBelow (sig_part at width ps)
constants_of_part = part_has AreConstantsBelow (λ i v is. cc is) (λ at t p ps some le h. constant_more at t p ps h)

abbrev AllHaveBits : List Piece → Type 0
AllHaveBits ps = (n : ℕ) (p : Piece) → slice_get ps n ≡ Some p → 0 < piece_width p

bits_more : (at t : ℕ) (q : Piece) (ps : List Piece) → 0 < t → AllHaveBits ps → AllHaveBits (piece_part at t q ∷ ps)
bits_more at t q ps some h zero p is =
    let same : piece_part at t q ≡ p = cc is in
    subst (λ r. 0 < piece_width r) same (subst (λ n. 0 < n) (sym (part_width at t q)) some)
bits_more at t q ps some h (suc n) p is = h n p is

pub bits_of_part : (at width n : ℕ) (ps : List Piece) (p : Piece) → slice_get (sig_part at width ps) n ≡ Some p → 0 < piece_width p
bits_of_part at width n ps p is = part_has AllHaveBits (λ k q e. cc e) (λ from t q qs some le h. bits_more from t q qs some h) at width ps n p is

-- ---- a part fits where the whole does

reaches_less : (end more : ℕ) (net : Option Net) → end ≤ more → reaches more net ≡ true → reaches end net ≡ true
reaches_less end more None le h = h
reaches_less end more (Some x) le h = let m : more ≤ x.width = leb-true more x.width h in le-leb end x.width (omega arith)

module _ (nets : List Net) where
  piece_part_fits : (at t : ℕ) (p : Piece) → at + t ≤ piece_width p → piece_fits nets p ≡ true → piece_fits nets (piece_part at t p) ≡ true
  piece_part_fits at t (piece.Const v) le h = refl
  piece_part_fits at t (piece.Part net from all) le h = reaches_less (from + at + t) (from + all) (slice_get nets net) (omega (arith, le)) h

  pieces_fit : (at width : ℕ) (ps : List Piece) → list_all (piece_fits nets) ps ≡ true → list_all (piece_fits nets) (sig_part at width ps) ≡ true
  unfolding sig_part
  pieces_fit at width [] h = refl
  pieces_fit at width (p ∷ ps) h =
      let both = and_parts (piece_fits nets p) (list_all (piece_fits nets) ps) h in
      let rest : list_all (piece_fits nets) (left at width p ps) ≡ true = pieces_fit (at - piece_width p) (width - taken at width p) ps both.1 in
      elim (eqb_tells (taken at width p) 0) [
        | inl t ↦ ap (list_all (piece_fits nets)) (part_step at width p ps ∙ cond-true (eqb (taken at width p) 0) _ _ t.0) ∙ rest
        | inr f ↦
            (let ne : taken at width p ≢ 0 = f.1 in
            ap (list_all (piece_fits nets)) (part_step at width p ps ∙ cond-false (eqb (taken at width p) 0) _ _ f.0)
            ∙ and_from (piece_fits nets (piece_part at (taken at width p) p)) (list_all (piece_fits nets) (left at width p ps)) (piece_part_fits at (taken at width p) p (omega arith) both.0) rest)
      ]

  pub part_fits : (at width : ℕ) (ps : List Piece) → at + width ≤ sig_width ps → sig_fits nets ps ≡ true → sig_of nets width (sig_part at width ps) ≡ true
  part_fits at width ps le h =
      let both = and_parts (list_all (piece_fits nets) ps) (leb (sig_width ps) widest) h in
      let wide : sig_width (sig_part at width ps) ≡ width = width_of_part at width ps le in
      let most : sig_width ps ≤ widest = leb-true (sig_width ps) widest both.1 in
      and_from (sig_fits nets (sig_part at width ps)) (sig_width (sig_part at width ps) == width)
      (and_from (list_all (piece_fits nets) (sig_part at width ps)) (leb (sig_width (sig_part at width ps)) widest) (pieces_fit at width ps both.0)
      (le-leb (sig_width (sig_part at width ps)) widest (omega (arith, wide, le, most))))
      (eq-eqb (sig_width (sig_part at width ps)) width wide)
