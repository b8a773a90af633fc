-- A signal and a cell depend on nothing but the bits that they read.
use Rattle.std.proofs.Common.{◌≡◌, ℕ, zero, suc, ◌+◌, ◌*◌, ◌^◌, ◌<◌, ◌⊎◌, List, [], ◌∷◌, refl, ap, ◌∙◌, arith, inl, inr}
use Rattle.circuit.specs.Signal.{Digits, Reads, gathered, sig_number, sig_width}
use Rattle.sim_base.specs.BitValue.{bit_value}
use Rattle.circuit.specs.Output.{CellInputs, modulo, formula, output}
use Rattle.circuit.specs.declared.cell.Cell.{Cell}
use Rattle.circuit.specs.declared.netlist.Piece.{Piece}
use Rattle.circuit.specs.declared.netlist.Piece.TheVariants as piece

pub gathered_same : (w : ℕ) (d e : ℕ → ℕ) → ((j : ℕ) → j < w → d j ≡ e j) → gathered d w ≡ gathered e w
unfolding gathered
gathered_same zero d e h = refl
gathered_same (suc w) d e h =
    let t : gathered d w ≡ gathered e w = gathered_same w d e (λ j lt. h j (omega arith)) in
    let a : d w ≡ e w = h w (omega arith) in cc (t, a)

pub sig_same : (ps : List Piece) (d e : Digits) → ((net bit : ℕ) → Reads ps net bit → d net bit ≡ e net bit) → sig_number d ps ≡ sig_number e ps
unfolding sig_number Reads
sig_same [] d e h = refl
sig_same (piece.Const v ∷ ps) d e h =
    let t : sig_number d ps ≡ sig_number e ps = sig_same ps d e h in ap (λ n. n * 2 ^ v.width + v.number) t
sig_same (piece.Part n at w ∷ ps) d e h =
    let t : sig_number d ps ≡ sig_number e ps = sig_same ps d e (λ net bit r. h net bit (inr r)) in
    let g : gathered (λ j. d n (at + j)) w ≡ gathered (λ j. e n (at + j)) w = gathered_same w (λ j. d n (at + j)) (λ j. e n (at + j)) (λ j lt. h n (at + j) (inl (refl, omega arith, omega arith))) in
    cc (t, g)

abbrev with_numbers : Cell → ℕ → ℕ → ℕ → CellInputs
with_numbers c a b s = record {
  width = c.width;
  offset = c.offset;
  a_signed = c.a_signed;
  b_signed = c.b_signed;
  a = bit_value (sig_width c.a) a;
  b = bit_value (sig_width c.b) b;
  s = bit_value (sig_width c.s) s;
}

pub cell_same : (c : Cell) (d e : Digits) → ((net bit : ℕ) → Reads c.a net bit ⊎ (Reads c.b net bit ⊎ Reads c.s net bit) → d net bit ≡ e net bit) → output d c ≡ output e c
cell_same c d e h =
    let a : sig_number d c.a ≡ sig_number e c.a = sig_same c.a d e (λ net bit r. h net bit (inl r)) in
    let b : sig_number d c.b ≡ sig_number e c.b = sig_same c.b d e (λ net bit r. h net bit (inr (inl r))) in
    let s : sig_number d c.s ≡ sig_number e c.s = sig_same c.s d e (λ net bit r. h net bit (inr (inr r))) in
    ap (λ n. modulo c.width (formula c.op (with_numbers c n (sig_number d c.b) (sig_number d c.s)))) a
    ∙ ap (λ n. modulo c.width (formula c.op (with_numbers c (sig_number e c.a) n (sig_number d c.s)))) b
    ∙ ap (λ n. modulo c.width (formula c.op (with_numbers c (sig_number e c.a) (sig_number e c.b) n))) s
