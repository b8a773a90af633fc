-- Cells whose operands are whole values.
use Rattle.std.proofs.Common.{List, ◌≡◌, ℕ, ◌%◌, ◌^◌, ◌<◌, refl, sym, ◌∙◌, ap, arith, Bool, true, ◌&&◌}
use Rattle.std.specs.Prelude.{◌==◌, int_le}
use Rattle.std.proofs.Math.Nat.{mod-eq_of_lt}
use Rattle.sim_base.specs.BitValue.{BitValue}
use Rattle.circuit.specs.Signal.{Digits, sig_number, sig_value, sig_width}
use Rattle.circuit.specs.Output.{modulo, cell_inputs, is_equal, output, operand, left, right, first}
use Rattle.circuit.specs.declared.netlist.Piece.{Piece}
use Rattle.circuit.specs.declared.cell.Cell.{Cell}
use Rattle.circuit.specs.declared.cell.Op.{Op}
use Rattle.circuit.specs.declared.cell.Op.TheVariants as op
use Rattle.cell_wide.specs.Kinds.{is_bitwise, is_unary}
use Rattle.cell_wide.specs.Words.{digitwise}
use Rattle.cell_wide.specs.declared.words.Bitwise.TheVariants as by
use Rattle.cell_wide.proofs.Copied.{piece_operand}
use Rattle.cell_wide.proofs.Outputs.{output_of, pair_output, xnor_output, not_output}
use Rattle.cell_wide.proofs.Truths.{operands_equal}

-- an operand that is a whole value of the width
pub whole_operand : (digits : Digits) (flag : Bool) (sig port : List Piece) (v : BitValue) (w : ℕ) → v ≡ sig_value digits sig → v.number < 2 ^ v.width → v.width ≡ w → sig ≡ port → v.number ≡ modulo w (operand flag (sig_width port) (sig_number digits port))
whole_operand digits flag sig port v w is below width same =
    sym (ap (λ k. v.number % 2 ^ k) (sym width) ∙ mod-eq_of_lt below) ∙ piece_operand digits flag sig port v w is below (omega (arith, width)) same

pub bitwise_digits : (digits : Digits) (c : Cell) (o : Op) (w x y : ℕ) → c.op ≡ o → is_bitwise o ≡ true → w ≡ c.width → x ≡ modulo w (left (cell_inputs digits c)) → y ≡ modulo w (right (cell_inputs digits c)) → digitwise o w x y ≡ output digits c
bitwise_digits digits c op.And w x y is kind width a b = pair_output digits c op.And by.And by.And w x y is refl width a b refl
bitwise_digits digits c op.Or w x y is kind width a b = pair_output digits c op.Or by.Or by.Or w x y is refl width a b refl
bitwise_digits digits c op.Xor w x y is kind width a b = pair_output digits c op.Xor by.Xor by.Xor w x y is refl width a b refl
bitwise_digits digits c op.Xnor w x y is kind width a b = xnor_output digits c by.Xor w x y is refl width a b
bitwise_digits digits c _ w x y is kind width a b = absurd (cc kind)

pub unary_digits : (digits : Digits) (c : Cell) (o : Op) (w x y : ℕ) → c.op ≡ o → is_unary o ≡ true → w ≡ c.width → x ≡ modulo w (first (cell_inputs digits c)) → digitwise o w x y ≡ output digits c
unary_digits digits c op.Not w x y is kind width a = not_output digits c w x is width a
unary_digits digits c op.Pos w x y is kind width a = a ∙ ap (λ k. modulo k (first (cell_inputs digits c))) width ∙ output_of digits c op.Pos is
unary_digits digits c _ w x y is kind width a = absurd (cc kind)

-- operands of one width are equal where their numbers are
pub values_equal : (digits : Digits) (c : Cell) (one other : List Piece) (a b : BitValue) (equal : Bool) → a ≡ sig_value digits one → b ≡ sig_value digits other → one ≡ c.a → other ≡ c.b → a.number < 2 ^ a.width → b.number < 2 ^ b.width → a.width ≡ b.width
    → equal ≡ (a.number == b.number) → is_equal (cell_inputs digits c) ≡ equal
values_equal digits c one other a b equal is i f g la lb width e =
    let flag = c.a_signed && c.b_signed in
    let l : a ≡ sig_value digits c.a = is ∙ ap (sig_value digits) f in
    let r : b ≡ sig_value digits c.b = i ∙ ap (sig_value digits) g in
    sym (e ∙ ap (λ x. x == b.number) (whole_operand digits flag one c.a a a.width is la refl f) ∙ ap (λ x. modulo a.width (operand flag (sig_width c.a) (sig_number digits c.a)) == x) (whole_operand digits flag other c.b b a.width i lb (sym width) g)
    ∙ ap (λ (v : BitValue). modulo a.width (operand flag v.width v.number) == modulo a.width (operand flag (sig_width c.b) (sig_number digits c.b))) (sym l)
    ∙ ap (λ (v : BitValue). modulo a.width (operand flag a.width a.number) == modulo a.width (operand flag v.width v.number)) (sym r)
    ∙ operands_equal flag a.width b.width a.width a.number b.number la lb (omega arith) (omega (arith, width))
    ∙ ap (λ (v : BitValue). int_le (operand flag v.width v.number) (operand flag b.width b.number) && int_le (operand flag b.width b.number) (operand flag v.width v.number)) l
    ∙ ap (λ (v : BitValue). int_le (operand flag (sig_width c.a) (sig_number digits c.a)) (operand flag v.width v.number) && int_le (operand flag v.width v.number) (operand flag (sig_width c.a) (sig_number digits c.a))) r)
