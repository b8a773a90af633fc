-- Numbers that are cut twice, and parts of signals.
use Rattle.std.proofs.Common.{◌≡◌, Option, ℕ, zero, suc, ◌+◌, ◌-◌, ◌*◌, ◌/◌, ◌%◌, ◌^◌, ◌<◌, ◌≤◌, List, [], ◌∷◌, ◌++◌, min, nat_eq, cond, true, false, length, get_or, drop, map, refl, sym, ap, ◌∙◌, arith, append_assoc}
use Rattle.std.proofs.lemmas.Nat.{shr-shr, mod-pow-add, div-mul-add, pow_pos, mod_below}
use Rattle.std.proofs.Math.Pow.{mod-mod-pow}
use Rattle.std.proofs.lemmas.Bool.Decides.{nat_tests}
use Rattle.circuit.specs.declared.netlist.Piece.{Piece}
use Rattle.circuit.specs.Signal.{piece_part, piece_width, sig_part, sig_width}
use Rattle.rtlil_tree.specs.declared.sig.Slice.{Slice}
use Rattle.rtlil_signals.specs.declared.slice.Range.{Range}
use Rattle.rtlil_signals.specs.Slices.{chosen}
use Rattle.rtlil_signals.specs.Signals.{cut, sliced}
use Rattle.sim_base.specs.BitValue.{BitValue, bit_value}
use Rattle.circuit.specs.declared.netlist.Piece.TheVariants as piece
use Rattle.rtlil_signals.specs.Spans.{value_part, some_part, piece_of, pieces_of}
use Rattle.rtlil_signals.specs.declared.span.Span.{Span}
use Rattle.rtlil_signals.proofs.Loops.{drop_item}

shorter : (n j a w : ℕ) → w ≤ j → n % 2 ^ (j + a) / 2 ^ a % 2 ^ w ≡ n / 2 ^ a % 2 ^ w
shorter n j a w le =
    let split : j ≡ (j - w) + w = omega arith in
    ap (λ x. x / 2 ^ a % 2 ^ w) (mod-pow-add n j a)
    ∙ ap (λ x. x % 2 ^ w) (div-mul-add (n / 2 ^ a % 2 ^ j) (2 ^ a) (n % 2 ^ a) (mod_below n (2 ^ a) (pow_pos a)))
    ∙ ap (λ k. n / 2 ^ a % 2 ^ k % 2 ^ w) split
    ∙ mod-mod-pow (n / 2 ^ a) (j - w) w

-- a part of a part
pub cut_twice : (n from all at width : ℕ) → at + width ≤ all → n / 2 ^ from % 2 ^ all / 2 ^ at % 2 ^ width ≡ n / 2 ^ (from + at) % 2 ^ width
cut_twice n from all at width le =
    let split : all ≡ (all - at) + at = omega arith in
    ap (λ k. n / 2 ^ from % 2 ^ k / 2 ^ at % 2 ^ width) split
    ∙ shorter (n / 2 ^ from) (all - at) at width (omega arith)
    ∙ ap (λ x. x % 2 ^ width) (shr-shr n from at)

pub cut_again : (v : BitValue) (from all at width : ℕ) → at + width ≤ all → piece.Const (value_part v (from + at) (from + at + width - (from + at))) ≡ piece_part at width (piece.Const (value_part v from all))
cut_again v from all at width le =
    let long : from + at + width - (from + at) ≡ width = omega arith in
    ap (λ w. piece.Const (value_part v (from + at) w)) long ∙ ap (λ n. piece.Const (bit_value width n)) (sym (cut_twice v.number from all at width le))

-- what a piece gives, and the rest
pub part_cons : (at width : ℕ) (p : Piece) (ps : List Piece) → sig_part at width (p ∷ ps) ≡ some_part at (min (piece_width p - at) width) p ++ sig_part (at - piece_width p) (width - min (piece_width p - at) width) ps
unfolding sig_part
part_cons at width p ps =
    let taken = min (piece_width p - at) width in
    let rest = sig_part (at - piece_width p) (width - taken) ps in
    elim (nat_eq taken 0) as (λ b. cond b rest (piece_part at taken p ∷ rest) ≡ cond b [] (piece_part at taken p ∷ []) ++ rest) [ true ↦ refl | false ↦ refl ]

-- a loop over the parts of a signal: what the one at hand gives, and the rest
pub part_more : (at width : ℕ) (all : List Span) (i : ℕ) (s : Span) (found next : List Piece) → i < length all → s ≡ get_or all i s
    → next ≡ found ++ some_part at (min (piece_width (piece_of s) - at) width) (piece_of s)
    → found ++ sig_part at width (pieces_of (drop i all)) ≡ next ++ sig_part (at - piece_width (piece_of s)) (width - min (piece_width (piece_of s) - at) width) (pieces_of (drop (i + 1) all))
part_more at width all i s found next below here is =
    let p = piece_of s in
    let rest = sig_part (at - piece_width p) (width - min (piece_width p - at) width) (pieces_of (drop (i + 1) all)) in
    ap (λ ss. found ++ sig_part at width (pieces_of ss)) (drop_item all i s below here)
    ∙ ap (λ ps. found ++ ps) (part_cons at width p (pieces_of (drop (i + 1) all)))
    ∙ sym (append_assoc found (some_part at (min (piece_width p - at) width) p) rest)
    ∙ ap (λ n. n ++ rest) (sym is)

pub part_end : (at width : ℕ) → sig_part at width [] ≡ []
unfolding sig_part
part_end at width = refl

-- slices, of which there is one at least
pub sliced_by : (ss : List Slice) (ps : List Piece) (o : Option Range) → (ss ≡ [] → ⊥) → chosen (record { at = 0; width = sig_width ps }) ss ≡ o → sliced ss ps ≡ cut ps o
sliced_by [] ps o some e = absurd (some refl)
sliced_by (s ∷ ss) ps o some e = ap (cut ps) e
