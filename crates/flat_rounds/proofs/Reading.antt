-- What signals and cells of one word read.
use Rattle.std.proofs.Common.{◌≡◌, ℕ, ◌+◌, ◌*◌, ◌%◌, ◌^◌, ◌<◌, ◌⊎◌, List, [], ◌∷◌, Bool, ◌&&◌, false, refl, sym, ◌∙◌, ap, subst, arith, inl, inr, pos, ◌+ℤ◌, get_or}
use Rattle.std.specs.Prelude.{slice_index}
use Rattle.std.specs.Int.{bit_at}
use Rattle.std.proofs.lemmas.Option.{slice_get_within}
use Rattle.circuit.specs.Signal.{Digits, digits_of_nets, gathered, piece_number, sig_number, sig_width}
use Rattle.sim_base.specs.BitValue.{bit_value}
use Rattle.circuit.specs.Output.{CellInputs, modulo, operand, formula, cell_inputs, output}
use Rattle.circuit.specs.declared.netlist.Circuit.{Circuit}
use Rattle.circuit.specs.declared.cell.Cell.{Cell}
use Rattle.circuit.specs.declared.netlist.Piece.{Piece}
use Rattle.circuit.specs.declared.netlist.Piece.TheVariants as piece
use Rattle.circuit.specs.declared.cell.Op.TheVariants as op
use Rattle.flat_design.specs.Flat.{IsWordWidth, IsFlatPiece, IsFlatSig, IsFlatCell, ReadsNet}
use Rattle.flat_rounds.specs.Pass.{AreNetNumbers}
use Rattle.flat_rounds.specs.Word.{IsWordPiece, IsWordSig, IsWordCell}
use Rattle.flat_rounds.proofs.Words.{gathered_same, number_gathered}

-- the word of a whole net
pub part_number : (nets : List ℕ) (net at w : ℕ) → at ≡ 0 → slice_index nets net < 2 ^ w → slice_index nets net ≡ piece_number (digits_of_nets nets) (piece.Part net at w)
part_number nets net at w e lt =
    sym (number_gathered (slice_index nets net) w lt) ∙ ap (λ k. gathered (λ j. bit_at (slice_index nets net) (k + j)) w) (sym e)

-- a signal of one piece
pub one_piece : (d : Digits) (p : Piece) → piece_number d p ≡ sig_number d (p ∷ [])
unfolding sig_number
one_piece d p = omega arith

-- signals and cells of a flat circuit are single words under numbers of its nets
word_piece : (c : Circuit) (nets : List ℕ) (w : ℕ) (p : Piece) → AreNetNumbers c nets → IsWordWidth w → IsFlatPiece c w p → IsWordPiece nets p
word_piece c nets w (piece.Const v) are wide flat = omega (arith, flat, wide.1)
word_piece c nets w (piece.Part net at v) are wide flat =
    let h = flat.2 in
    let lt : slice_index nets net < 2 ^ h.0.width = are.below net h.0 h.1 in
    let e : h.0.width ≡ v = h.2 ∙ sym flat.1 in
    (flat.0, omega (arith, slice_get_within c.nets net h.0 h.1, are.long), subst (λ (k : ℕ). slice_index nets net < 2 ^ k) e lt)

pub word_sig : (c : Circuit) (nets : List ℕ) (w : ℕ) (ps : List Piece) → AreNetNumbers c nets → IsFlatSig c w ps → IsWordSig nets ps
word_sig c nets w [] are flat = absurd flat
word_sig c nets w (p ∷ []) are flat = word_piece c nets w p are flat.0 flat.1
word_sig c nets w (p ∷ q ∷ ps) are flat = absurd flat

pub word_cell : (c : Circuit) (nets : List ℕ) (x : Cell) → AreNetNumbers c nets → IsFlatCell c x → IsWordCell nets x
word_cell c nets x are flat = record {
  op = flat.op;
  a = word_sig c nets flat.a.0 x.a are flat.a.1;
  b = word_sig c nets flat.b.0 x.b are flat.b.1;
  a_unsigned = flat.a_unsigned;
  b_unsigned = flat.b_unsigned;
  width = flat.width.1;
}

-- the width of a flat signal
pub flat_width : (c : Circuit) (w : ℕ) (ps : List Piece) → IsFlatSig c w ps → sig_width ps ≡ w
flat_width c w [] flat = absurd flat
flat_width c w (piece.Const v ∷ []) flat = let e : v.width ≡ w = flat.1 in omega (arith, e)
flat_width c w (piece.Part net at v ∷ []) flat = let e : v ≡ w = flat.1.1 in omega (arith, e)
flat_width c w (p ∷ q ∷ ps) flat = absurd flat

-- the same on the nets that it reads, the same number
pub sig_same : (ps : List Piece) (d e : Digits) → ((net bit : ℕ) → ReadsNet ps net → d net bit ≡ e net bit) → sig_number d ps ≡ sig_number e ps
unfolding sig_number
sig_same [] d e h = refl
sig_same (piece.Const v ∷ ps) d e h =
    let t : sig_number d ps ≡ sig_number e ps = sig_same ps d e h in ap (λ n. n * 2 ^ v.width + v.number) t
sig_same (piece.Part n at w ∷ ps) d e h =
    let t : sig_number d ps ≡ sig_number e ps = sig_same ps d e (λ net bit r. h net bit (inr r)) in
    let g : gathered (λ j. d n (at + j)) w ≡ gathered (λ j. e n (at + j)) w = gathered_same w (λ j. d n (at + j)) (λ j. e n (at + j)) (λ j lt. h n (at + j) (inl refl)) in
    cc (t, g)

-- the empty signal
empty_same : (ps : List Piece) (d e : Digits) → ps ≡ [] → sig_number d ps ≡ sig_number e ps
empty_same ps d e none = sig_same ps d e (λ net bit r. absurd (subst (λ (qs : List Piece). ReadsNet qs net) none r))

abbrev with_numbers : Cell → ℕ → ℕ → ℕ → CellInputs
with_numbers x a b s = record {
  width = x.width;
  offset = x.offset;
  a_signed = x.a_signed;
  b_signed = x.b_signed;
  a = bit_value (sig_width x.a) a;
  b = bit_value (sig_width x.b) b;
  s = bit_value (sig_width x.s) s;
}

-- equal signals, equal outputs
pub output_same : (x : Cell) (d e : Digits) → x.s ≡ [] → sig_number d x.a ≡ sig_number e x.a → sig_number d x.b ≡ sig_number e x.b → output d x ≡ output e x
output_same x d e none a b =
    ap (λ n. modulo x.width (formula x.op (with_numbers x n (sig_number d x.b) (sig_number d x.s)))) a
    ∙ ap (λ n. modulo x.width (formula x.op (with_numbers x (sig_number e x.a) n (sig_number d x.s)))) b
    ∙ ap (λ n. modulo x.width (formula x.op (with_numbers x (sig_number e x.a) (sig_number e x.b) n))) (empty_same x.s d e none)

pub cell_same : (x : Cell) (d e : Digits) → x.s ≡ [] → ((net bit : ℕ) → ReadsNet x.a net ⊎ ReadsNet x.b net → d net bit ≡ e net bit) → output d x ≡ output e x
cell_same x d e none h =
    output_same x d e none (sig_same x.a d e (λ net bit r. h net bit (inl r))) (sig_same x.b d e (λ net bit r. h net bit (inr r)))

unsigned : (s t : Bool) → s ≡ false → (s && t) ≡ false
unsigned s t e = ap (λ b. b && t) e

-- the output of an unsigned sum
pub output_add : (x : Cell) (d : Digits) → x.op ≡ op.Add → x.a_signed ≡ false → x.b_signed ≡ false → output d x ≡ (sig_number d x.a + sig_number d x.b) % 2 ^ x.width
output_add x d add a b =
    ap (λ f. modulo x.width (formula f (cell_inputs d x))) add
    ∙ ap (λ s. modulo x.width (operand s (sig_width x.a) (sig_number d x.a) +ℤ operand s (sig_width x.b) (sig_number d x.b))) (unsigned x.a_signed x.b_signed a)

-- the number of a signal is that of its first piece
pub first_piece : (d : Digits) (nets : List ℕ) (ps : List Piece) (p : Piece) → IsWordSig nets ps → p ≡ get_or ps 0 p → piece_number d p ≡ sig_number d ps
first_piece d nets [] p word e = absurd word
first_piece d nets (q ∷ []) p word e = ap (piece_number d) e ∙ one_piece d q
first_piece d nets (q ∷ r ∷ ps) p word e = absurd word
