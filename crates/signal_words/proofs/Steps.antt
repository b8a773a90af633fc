-- The step from one place in a signal to the next.
use Rattle.std.proofs.Common.{◌≡◌, ℕ, ◌+◌, ◌-◌, ◌*◌, ◌/◌, ◌%◌, ◌^◌, ◌<◌, ◌≤◌, List, ◌∷◌, length, min, sym, ◌∙◌, ap, subst, arith}
use Rattle.std.proofs.Math.Nat.{zero-div}
use Rattle.std.proofs.lemmas.Nat.{shr-shr, mod_below, pow_pos}
use Rattle.sim_base.specs.BitValue.{BitValue, bit_value}
use Rattle.circuit.specs.Signal.{piece_number, piece_width, sig_number, sig_width}
use Rattle.circuit.specs.declared.netlist.Piece.{Piece}
use Rattle.signal_words.specs.Values.{digits_in, IsPlace}
use Rattle.signal_words.proofs.Numbers.{IsRead, more_read, put_above, word_read, rest_read, end_read}
use Rattle.signal_words.proofs.Signals.{first_is, first_field, place_inside, left_inside, place_behind, left_behind, width_of_pieces, number_at_end, width_at_end, same_value}

-- `taken` of the `n` bits that are asked for are read
pub record IsReading (values : List BitValue) (ps : List Piece) (at n width number word taken : ℕ) : Type 0 where
  pub place : IsPlace values ps at
  pub most : taken ≤ n
  pub wide : width ≡ sig_width ps - at + taken
  pub read : IsRead number (sig_number (digits_in values) ps / 2 ^ at) word taken

-- a part of the first piece, as long as the piece and what is asked for allow
pub record IsPart (values : List BitValue) (p : Piece) (at n taken w part : ℕ) : Type 0 where
  pub small : n ≤ 64
  pub wide : w ≡ min (piece_width p - at) (n - taken)
  pub field : part ≡ piece_number (digits_in values) p / 2 ^ at % 2 ^ w

module _ (values : List BitValue) (ps : List Piece) (p : Piece) (qs : List Piece) (at n width number word taken w part : ℕ) (e : ps ≡ p ∷ qs) (r : IsReading values ps at n width number word taken) (h : IsPart values p at n taken w part) where
  at_first : at ≤ piece_width p
  at_first = omega (arith, first_is values ps p qs at e, r.place.first)

  within : at + w ≤ piece_width p
  within = omega (arith, at_first, h.wide)

  room : taken + w ≤ 64
  room = omega (arith, r.most, h.wide, h.small)

  part_is : part ≡ sig_number (digits_in values) ps / 2 ^ at % 2 ^ w
  part_is = h.field ∙ first_field values ps p qs at e w within

  pub part_fits : word + part * 2 ^ taken % 2 ^ 64 < 2 ^ 64
  part_fits =
      let b : part < 2 ^ w = subst (λ x. x < 2 ^ w) (sym part_is) (mod_below (sig_number (digits_in values) ps / 2 ^ at) (2 ^ w) (pow_pos w)) in
      let s = put_above taken w part word r.read.below b room in s.fits

  read_more : IsRead number (sig_number (digits_in values) ps / 2 ^ at / 2 ^ w) (word + part * 2 ^ taken % 2 ^ 64) (taken + w)
  read_more = more_read number (sig_number (digits_in values) ps / 2 ^ at) word taken part w r.read part_is room

  pub read_inside : IsReading values ps (at + w) n width number (word + part * 2 ^ taken % 2 ^ 64) (taken + w)
  read_inside = record {
    place = place_inside values ps p qs at e w r.place within;
    most = omega (arith, r.most, h.wide);
    wide = omega (arith, r.wide, within, width_of_pieces values ps p qs at e);
    read = subst (λ x. IsRead number x (word + part * 2 ^ taken % 2 ^ 64) (taken + w)) (sym (left_inside values ps p qs at e w)) read_more;
  }

  pub read_behind : piece_number (digits_in values) p < 2 ^ piece_width p → w ≡ piece_width p - at → IsReading values qs 0 n width number (word + part * 2 ^ taken % 2 ^ 64) (taken + w)
  read_behind below all =
      let end : at + w ≡ piece_width p = omega (arith, all, at_first) in
      record {
        place = place_behind values ps p qs at e r.place;
        most = omega (arith, r.most, h.wide);
        wide = omega (arith, r.wide, end, width_of_pieces values ps p qs at e);
        read = subst (λ x. IsRead number x (word + part * 2 ^ taken % 2 ^ 64) (taken + w)) (sym (left_behind values ps p qs at e w below end)) read_more;
      }

-- what was asked for, and what is left
pub record IsTaken (values : List BitValue) (ps : List Piece) (at n width number word : ℕ) : Type 0 where
  pub word_is : word ≡ number % 2 ^ n
  pub rest : bit_value (sig_width ps - at) (sig_number (digits_in values) ps / 2 ^ at) ≡ bit_value (width - n) (number / 2 ^ n)

pub taken_whole : (values : List BitValue) (ps : List Piece) (at n width number word taken : ℕ) → IsReading values ps at n width number word taken → n ≤ taken → IsTaken values ps at n width number word
taken_whole values ps at n width number word taken r le =
    let same : taken ≡ n = omega (arith, r.most) in
    let f = subst (IsRead number (sig_number (digits_in values) ps / 2 ^ at) word) same r.read in
    record {
      word_is = word_read number (sig_number (digits_in values) ps / 2 ^ at) word n f;
      rest = same_value (sig_width ps - at) (width - n) (sig_number (digits_in values) ps / 2 ^ at) (number / 2 ^ n) (omega (arith, r.wide, same)) (rest_read number (sig_number (digits_in values) ps / 2 ^ at) word n f);
    }

pub taken_end : (values : List BitValue) (ps : List Piece) (at n width number word taken : ℕ) → IsReading values ps at n width number word taken → length ps ≡ 0 → IsTaken values ps at n width number word
taken_end values ps at n width number word taken r none =
    let z : sig_number (digits_in values) ps / 2 ^ at ≡ 0 = number_at_end values ps at none in
    let f : IsRead number 0 word n = end_read number word taken n (subst (λ x. IsRead number x word taken) z r.read) r.most in
    record {
      word_is = word_read number 0 word n f;
      rest = same_value (sig_width ps - at) (width - n) (sig_number (digits_in values) ps / 2 ^ at) (number / 2 ^ n) (omega (arith, r.wide, r.most, width_at_end ps at none)) (z ∙ rest_read number 0 word n f);
    }

-- some bits of the first piece are taken
module _ (values : List BitValue) (ps : List Piece) (p : Piece) (qs : List Piece) (at n width number part : ℕ) (e : ps ≡ p ∷ qs) (le : at + n ≤ piece_width p) (is : number ≡ sig_number (digits_in values) ps / 2 ^ at) where
  pub first_taken : part ≡ piece_number (digits_in values) p / 2 ^ at % 2 ^ n → part ≡ number % 2 ^ n
  first_taken h = h ∙ first_field values ps p qs at e n le ∙ ap (λ x. x % 2 ^ n) (sym is)

  pub first_left : width ≡ sig_width ps - at → bit_value (sig_width ps - (at + n)) (sig_number (digits_in values) ps / 2 ^ (at + n)) ≡ bit_value (width - n) (number / 2 ^ n)
  first_left w =
      same_value (sig_width ps - (at + n)) (width - n) (sig_number (digits_in values) ps / 2 ^ (at + n)) (number / 2 ^ n) (omega (arith, w))
      (left_inside values ps p qs at e n ∙ ap (λ x. x / 2 ^ n) (sym is))

-- ---- bits that are passed over

-- `more` of the `n` bits are still to be passed
pub record IsPassing (values : List BitValue) (ps : List Piece) (at n more : ℕ) (old : BitValue) : Type 0 where
  pub place : IsPlace values ps at
  pub most : more ≤ n
  pub wide : old.width - (n - more) ≡ sig_width ps - at
  pub left : old.number / 2 ^ (n - more) ≡ sig_number (digits_in values) ps / 2 ^ at

pub passing_none : (values : List BitValue) (ps : List Piece) (at n : ℕ) (old : BitValue) → IsPlace values ps at → old ≡ bit_value (sig_width ps - at) (sig_number (digits_in values) ps / 2 ^ at) → IsPassing values ps at n n old
passing_none values ps at n old h e =
    let z : n - n ≡ 0 = omega arith in
    let one : old.number / 2 ^ 0 ≡ old.number = omega arith in
    record {
      place = h;
      most = omega arith;
      wide = omega (arith, ap (λ (v : BitValue). v.width) e);
      left = ap (λ k. old.number / 2 ^ k) z ∙ one ∙ ap (λ (v : BitValue). v.number) e;
    }

module _ (values : List BitValue) (ps : List Piece) (p : Piece) (qs : List Piece) (at n more w : ℕ) (old : BitValue) (e : ps ≡ p ∷ qs) (r : IsPassing values ps at n more old) (wide : w ≡ min (piece_width p - at) more) where
  passed_more : old.number / 2 ^ (n - (more - w)) ≡ sig_number (digits_in values) ps / 2 ^ at / 2 ^ w
  passed_more =
      let k : n - (more - w) ≡ n - more + w = omega (arith, r.most, wide) in
      ap (λ x. old.number / 2 ^ x) k ∙ sym (shr-shr old.number (n - more) w) ∙ ap (λ x. x / 2 ^ w) r.left

  pub pass_inside : IsPassing values ps (at + w) n (more - w) old
  pass_inside =
      let first : at ≤ piece_width p = omega (arith, first_is values ps p qs at e, r.place.first) in
      let within : at + w ≤ piece_width p = omega (arith, first, wide) in
      record {
        place = place_inside values ps p qs at e w r.place within;
        most = omega (arith, r.most);
        wide = omega (arith, r.wide, r.most, wide, width_of_pieces values ps p qs at e);
        left = passed_more ∙ sym (left_inside values ps p qs at e w);
      }

  pub pass_behind : piece_number (digits_in values) p < 2 ^ piece_width p → w ≡ piece_width p - at → IsPassing values qs 0 n (more - w) old
  pass_behind below all =
      let first : at ≤ piece_width p = omega (arith, first_is values ps p qs at e, r.place.first) in
      let end : at + w ≡ piece_width p = omega (arith, all, first) in
      record {
        place = place_behind values ps p qs at e r.place;
        most = omega (arith, r.most);
        wide = omega (arith, r.wide, r.most, wide, end, width_of_pieces values ps p qs at e);
        left = passed_more ∙ sym (left_behind values ps p qs at e w below end);
      }

pub passed_whole : (values : List BitValue) (ps : List Piece) (at n more : ℕ) (old : BitValue) → IsPassing values ps at n more old → more ≡ 0 → bit_value (sig_width ps - at) (sig_number (digits_in values) ps / 2 ^ at) ≡ bit_value (old.width - n) (old.number / 2 ^ n)
passed_whole values ps at n more old r none =
    let k : n - more ≡ n = omega (arith, none) in
    same_value (sig_width ps - at) (old.width - n) (sig_number (digits_in values) ps / 2 ^ at) (old.number / 2 ^ n) (omega (arith, r.wide, k)) (sym r.left ∙ ap (λ x. old.number / 2 ^ x) k)

pub passed_end : (values : List BitValue) (ps : List Piece) (at n more : ℕ) (old : BitValue) → IsPassing values ps at n more old → length ps ≡ 0 → bit_value (sig_width ps - at) (sig_number (digits_in values) ps / 2 ^ at) ≡ bit_value (old.width - n) (old.number / 2 ^ n)
passed_end values ps at n more old r none =
    let z : sig_number (digits_in values) ps / 2 ^ at ≡ 0 = number_at_end values ps at none in
    let k : n ≡ n - more + more = omega (arith, r.most) in
    same_value (sig_width ps - at) (old.width - n) (sig_number (digits_in values) ps / 2 ^ at) (old.number / 2 ^ n) (omega (arith, r.wide, width_at_end ps at none))
    (z ∙ sym (ap (λ x. old.number / 2 ^ x) k ∙ sym (shr-shr old.number (n - more) more) ∙ ap (λ x. x / 2 ^ more) (r.left ∙ z) ∙ zero-div (2 ^ more)))
