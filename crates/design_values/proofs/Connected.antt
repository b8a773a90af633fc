-- What is shown of signals that are connected.
use Rattle.std.proofs.Common.{◌≡◌, ℕ, ◌+◌, ◌*◌, ◌/◌, ◌%◌, ◌^◌, ◌<◌, ◌≤◌, true, List, [], ◌∷◌, ◌++◌, refl, sym, ap, ◌∙◌, arith}
use Rattle.std.specs.List.{list_all}
use Rattle.std.proofs.lemmas.Bool.{and_parts}
use Rattle.std.proofs.lemmas.List.Sums.{sum_by-cons}
use Rattle.std.proofs.lemmas.Nat.{mod-mul-add, mod-pow-add, shr-shr}
use Rattle.circuit.specs.Below.{AreConstantsBelow}
use Rattle.circuit.specs.Signal.{AreBits, Digits, gathered, piece_number, piece_width, sig_number, sig_part, sig_width}
use Rattle.circuit.specs.Valuation.{given}
use Rattle.circuit.specs.declared.netlist.Drive.{Drive}
use Rattle.circuit.specs.declared.netlist.Piece.{Piece}
use Rattle.circuit.specs.declared.netlist.Piece.TheVariants as piece
use Rattle.rtlil_signals.specs.Drives.{by_of, connected, connected_from, onto}
use Rattle.design_wires.specs.Connects.{has_no_constant, is_part}
use Rattle.design_values.specs.Follows.{AllFollow, Values}
use Rattle.design_values.proofs.Numbers.{gathered_more, gathered_same, gathered_value, head_below, sig_below, tail_below}

pub follow_front : (v : Values) (a b : List Drive) → AllFollow v (a ++ b) → AllFollow v a
follow_front v [] b h = tt
follow_front v (d ∷ a) b h = (h.0, follow_front v a b h.1)

pub follow_behind : (v : Values) (a b : List Drive) → AllFollow v (a ++ b) → AllFollow v b
follow_behind v [] b h = h
follow_behind v (d ∷ a) b h = follow_behind v a b h.1

module _ (v : Values) where
  -- a piece as it drives
  piece_given : (p : Piece) (ps : List Piece) → AreConstantsBelow (p ∷ ps) → gathered (given v.circuit v.state v.inputs v.digits (by_of p)) (piece_width p) ≡ piece_number v.digits p
  piece_given (piece.Const u) ps h = gathered_value u.width u.number (head_below u ps h)
  piece_given (piece.Part net at w) ps h = refl

  pub onto_number : (net at : ℕ) (ps : List Piece) → AreConstantsBelow ps → AllFollow v (onto net at ps) → gathered (λ j. v.digits net (at + j)) (sig_width ps) ≡ sig_number v.digits ps
  unfolding onto sig_number gathered
  onto_number net at [] small h = refl
  onto_number net at (p ∷ ps) small h =
      let w = piece_width p in
      let m = sig_width ps in
      let rest : gathered (λ j. v.digits net (at + w + j)) m ≡ sig_number v.digits ps = onto_number net (at + w) ps (tail_below p ps small) h.1 in
      ap (gathered (λ j. v.digits net (at + j))) (sum_by-cons piece_width p ps)
      ∙ gathered_more w m (λ j. v.digits net (at + j))
      ∙ ap (λ (n : ℕ). n * 2 ^ w + gathered (λ j. v.digits net (at + j)) w) (gathered_same m (λ j. v.digits net (at + (w + j))) (λ j. v.digits net (at + w + j)) (λ i lt. let e : at + (w + i) ≡ at + w + i = omega arith in ap (v.digits net) e) ∙ rest)
      ∙ ap (λ (n : ℕ). sig_number v.digits ps * 2 ^ w + n) (gathered_same w (λ j. v.digits net (at + j)) (given v.circuit v.state v.inputs v.digits (by_of p)) h.0 ∙ piece_given p ps small)

-- what is shown of parts of signals below
abbrev pub Widths : Type 0
Widths = (at width : ℕ) (ps : List Piece) → at + width ≤ sig_width ps → sig_width (sig_part at width ps) ≡ width

abbrev pub Parts : Type 0
Parts = (digits : Digits) (at width : ℕ) (ps : List Piece) → AreBits digits → AreConstantsBelow ps → sig_number digits (sig_part at width ps) ≡ sig_number digits ps / 2 ^ at % 2 ^ width

abbrev pub Constants : Type 0
Constants = (at width : ℕ) (ps : List Piece) → AreConstantsBelow (sig_part at width ps)

module _ (widths : Widths) (parts : Parts) (constants : Constants) (v : Values) (small : AreBits v.digits) where
  connected_number : (done : ℕ) (left right : List Piece) → AreConstantsBelow right → has_no_constant left ≡ true → done + sig_width left ≤ sig_width right → AllFollow v (connected_from done left right) → sig_number v.digits left ≡ sig_number v.digits right / 2 ^ done % 2 ^ sig_width left
  unfolding connected_from sig_number
  connected_number done [] right below none fits h = let e : sig_number v.digits right / 2 ^ done % 2 ^ 0 ≡ 0 = omega arith in sym e
  connected_number done (piece.Const u ∷ ps) right below none fits h = cc (and_parts (is_part (piece.Const u)) (list_all is_part ps) none).0
  connected_number done (piece.Part net at w ∷ ps) right below none fits h =
      let all = sig_number v.digits right in
      let part = sig_part done w right in
      let m = sig_width ps in
      let cons : sig_width (piece.Part net at w ∷ ps) ≡ w + m = sum_by-cons piece_width (piece.Part net at w) ps in
      let wide : sig_width part ≡ w = widths done w right (omega (arith, fits, cons)) in
      let first : gathered (λ j. v.digits net (at + j)) w ≡ all / 2 ^ done % 2 ^ w =
      ap (gathered (λ j. v.digits net (at + j))) (sym wide)
      ∙ onto_number v net at part (constants done w right) (follow_front v (onto net at part) (connected_from (done + w) ps right) h)
      ∙ parts v.digits done w right small below in
      let rest : sig_number v.digits ps ≡ all / 2 ^ (done + w) % 2 ^ m =
      connected_number (done + w) ps right below (and_parts (is_part (piece.Part net at w)) (list_all is_part ps) none).1 (omega (arith, fits, cons)) (follow_behind v (onto net at part) (connected_from (done + w) ps right) h) in
      let order : w + m ≡ m + w = omega arith in
      ap (λ (n : ℕ). n * 2 ^ w + gathered (λ j. v.digits net (at + j)) w) (rest ∙ ap (λ (n : ℕ). n % 2 ^ m) (sym (shr-shr all done w)))
      ∙ ap (λ (n : ℕ). (all / 2 ^ done / 2 ^ w % 2 ^ m) * 2 ^ w + n) first
      ∙ sym (mod-pow-add (all / 2 ^ done) m w)
      ∙ ap (λ (n : ℕ). all / 2 ^ done % 2 ^ n) (sym (cons ∙ order))

  pub connected_same : (left right : List Piece) → AreConstantsBelow right → has_no_constant left ≡ true → sig_width left ≡ sig_width right → AllFollow v (connected left right) → sig_number v.digits left ≡ sig_number v.digits right
  connected_same left right below none wide h =
      let all = sig_number v.digits right in
      let lt : all < 2 ^ sig_width right = sig_below v.digits small right below in
      let whole : all / 2 ^ 0 ≡ all = omega arith in
      let plain : all ≡ 0 * 2 ^ sig_width right + all = omega arith in
      let fits : all % 2 ^ sig_width right ≡ all = ap (λ (n : ℕ). n % 2 ^ sig_width right) plain ∙ mod-mul-add 0 (2 ^ sig_width right) all lt in
      connected_number 0 left right below none (omega (arith, wide)) h
      ∙ ap (λ (n : ℕ). n % 2 ^ sig_width left) whole
      ∙ ap (λ (n : ℕ). all % 2 ^ n) wide
      ∙ fits
