-- What cells give, digit by digit.
use Rattle.std.proofs.Common.{List, ◌≡◌, ℕ, ◌+◌, ◌-◌, ◌%◌, ◌^◌, ◌<◌, refl, sym, ◌∙◌, ap, subst, arith, Bool, true, false}
use Rattle.std.proofs.Math.Nat.{add-mod_right, mod-eq_of_lt}
use Rattle.std.specs.Prelude.{ℤ, pos, ◌-ℤ◌, ◌==◌}
use Rattle.std.proofs.lemmas.Bool.{cond-true, cond-false}
use Rattle.std.proofs.lemmas.Nat.{pow_pos}
use Rattle.sim_base.specs.BitValue.{BitValue, bit_value}
use Rattle.circuit.specs.Signal.{Digits, sig_number}
use Rattle.circuit.specs.declared.netlist.Piece.{Piece}
use Rattle.circuit.specs.Output.{modulo, formula, cell_inputs, output, operand, left, right, first}
use Rattle.circuit.specs.declared.cell.Cell.{Cell}
use Rattle.circuit.specs.declared.cell.Op.{Op}
use Rattle.circuit.specs.declared.cell.Op.TheVariants as op
use Rattle.cell_wide.specs.Words.{combined}
use Rattle.cell_wide.specs.Kinds.{is_bitwise}
use Rattle.cell_wide.specs.Below.{combined_below}
use Rattle.cell_wide.specs.declared.words.Bitwise.{Bitwise}
use Rattle.cell_wide.specs.declared.words.Bitwise.TheVariants as by
use Rattle.signal_words.proofs.Modulo.{modulo_below, modulo_difference}

pub output_of : (digits : Digits) (c : Cell) (o : Op) → c.op ≡ o → modulo c.width (formula o (cell_inputs digits c)) ≡ output digits c
output_of digits c o is = ap (λ x. modulo c.width (formula x (cell_inputs digits c))) (sym is)

-- the complement of the lowest digits of a whole number
pub inverse_modulo : (w : ℕ) (z : ℤ) → (2 ^ w - 1) - modulo w z ≡ modulo w (pos 0 -ℤ pos 1 -ℤ z)
inverse_modulo w z =
    let below : modulo w z < 2 ^ w = modulo_below w z in
    let some : 0 < 2 ^ w = pow_pos w in
    let none : 0 % 2 ^ w ≡ 0 = mod-eq_of_lt some in
    let s : (2 ^ w - 1) - 0 % 2 ^ w + (2 ^ w - modulo w z) ≡ (2 ^ w - 1) - modulo w z + 2 ^ w = omega (arith, below, none, some) in
    let lt : (2 ^ w - 1) - modulo w z < 2 ^ w = omega (arith, some) in
    sym (mod-eq_of_lt lt) ∙ sym (add-mod_right ((2 ^ w - 1) - modulo w z) (2 ^ w)) ∙ ap (λ x. x % 2 ^ w) (sym s)
    ∙ modulo_difference w (pos 0 -ℤ pos 1) z ((2 ^ w - 1) - 0 % 2 ^ w) (modulo w z) refl refl

-- a combination is already below
pub combined_modulo : (op : Bitwise) (w : ℕ) (x y : ℤ) → combined op (modulo w x) (modulo w y) % 2 ^ w ≡ combined op (modulo w x) (modulo w y)
combined_modulo op w x y = mod-eq_of_lt (combined_below op (modulo w x) (modulo w y) w (modulo_below w x) (modulo_below w y))

pub combined_same : (op other : Bitwise) (a b x y : ℕ) → other ≡ op → a ≡ x → b ≡ y → combined other a b ≡ combined op x y
combined_same op other a b x y e f g = ap (λ o. combined o a b) e ∙ ap (λ z. combined op z b) f ∙ ap (combined op x) g

-- two operands digit by digit
pub pair_output : (digits : Digits) (c : Cell) (o : Op) (op other : Bitwise) (w x y : ℕ) → c.op ≡ o → other ≡ op → w ≡ c.width → x ≡ modulo w (left (cell_inputs digits c)) → y ≡ modulo w (right (cell_inputs digits c))
    → formula o (cell_inputs digits c) ≡ pos (combined op (modulo c.width (left (cell_inputs digits c))) (modulo c.width (right (cell_inputs digits c)))) → combined other x y ≡ output digits c
pair_output digits c o op other w x y is same width a b f =
    let l = left (cell_inputs digits c) in
    let r = right (cell_inputs digits c) in
    combined_same op other x y (modulo w l) (modulo w r) same a b ∙ ap (λ k. combined op (modulo k l) (modulo k r)) width ∙ sym (combined_modulo op c.width l r)
    ∙ sym (ap (modulo c.width) f) ∙ output_of digits c o is

pub xnor_is : (o : Op) → is_bitwise o ≡ true → (o ≡ op.And → ⊥) → (o ≡ op.Or → ⊥) → (o ≡ op.Xor → ⊥) → o ≡ op.Xnor
xnor_is o e a b d = grind arith

pub xnor_output : (digits : Digits) (c : Cell) (other : Bitwise) (w x y : ℕ) → c.op ≡ op.Xnor → other ≡ by.Xor → w ≡ c.width → x ≡ modulo w (left (cell_inputs digits c)) → y ≡ modulo w (right (cell_inputs digits c))
    → (2 ^ w - 1) - combined other x y ≡ output digits c
xnor_output digits c other w x y is same width a b =
    let l = left (cell_inputs digits c) in
    let r = right (cell_inputs digits c) in
    ap (λ z. (2 ^ w - 1) - z) (combined_same by.Xor other x y (modulo w l) (modulo w r) same a b) ∙ ap (λ k. (2 ^ k - 1) - combined by.Xor (modulo k l) (modulo k r)) width
    ∙ ap (λ z. (2 ^ c.width - 1) - z) (sym (combined_modulo by.Xor c.width l r)) ∙ inverse_modulo c.width (pos (combined by.Xor (modulo c.width l) (modulo c.width r))) ∙ output_of digits c op.Xnor is

pub not_output : (digits : Digits) (c : Cell) (w x : ℕ) → c.op ≡ op.Not → w ≡ c.width → x ≡ modulo w (first (cell_inputs digits c)) → (2 ^ w - 1) - x ≡ output digits c
not_output digits c w x is width a =
    ap (λ z. (2 ^ w - 1) - z) a ∙ ap (λ k. (2 ^ k - 1) - modulo k (first (cell_inputs digits c))) width ∙ inverse_modulo c.width (first (cell_inputs digits c)) ∙ output_of digits c op.Not is

-- a combination of two operands is below
pub combined_word : (op : Bitwise) (w x y : ℕ) (a b : ℤ) → x ≡ modulo w a → y ≡ modulo w b → combined op x y < 2 ^ w
combined_word op w x y a b e f = combined_below op x y w (subst (λ k. k < 2 ^ w) (sym e) (modulo_below w a)) (subst (λ k. k < 2 ^ w) (sym f) (modulo_below w b))

-- an operand that was read from the word of a port
pub word_read : (w x : ℕ) (signed flag : Bool) (v : BitValue) (width number : ℕ) → x ≡ modulo w (operand signed width number) → signed ≡ flag → v ≡ bit_value width number → x ≡ modulo w (operand flag v.width v.number)
word_read w x signed flag v width number e s is =
    e ∙ ap (λ t. modulo w (operand t width number)) s ∙ ap (λ (u : BitValue). modulo w (operand flag u.width u.number)) (sym is)

-- one of two ports
pub mux_first : (digits : Digits) (c : Cell) (w : ℕ) (s sig : List Piece) (t : Bool) → c.op ≡ op.Mux → w ≡ c.width → s ≡ c.s → sig ≡ c.a → t ≡ (sig_number digits s == 1) → t ≡ false → sig_number digits sig % 2 ^ w ≡ output digits c
mux_first digits c w s sig t is width selects reads told e =
    let n : (sig_number digits c.s == 1) ≡ false = ap (λ x. sig_number digits x == 1) (sym selects) ∙ sym told ∙ e in
    ap (λ x. sig_number digits x % 2 ^ w) reads ∙ ap (λ k. sig_number digits c.a % 2 ^ k) width
    ∙ ap (λ n. n % 2 ^ c.width) (sym (cond-false (sig_number digits c.s == 1) (sig_number digits c.b) (sig_number digits c.a) n)) ∙ output_of digits c op.Mux is

pub mux_second : (digits : Digits) (c : Cell) (w : ℕ) (s sig : List Piece) (t : Bool) → c.op ≡ op.Mux → w ≡ c.width → s ≡ c.s → sig ≡ c.b → t ≡ (sig_number digits s == 1) → t ≡ true → sig_number digits sig % 2 ^ w ≡ output digits c
mux_second digits c w s sig t is width selects reads told e =
    let n : (sig_number digits c.s == 1) ≡ true = ap (λ x. sig_number digits x == 1) (sym selects) ∙ sym told ∙ e in
    ap (λ x. sig_number digits x % 2 ^ w) reads ∙ ap (λ k. sig_number digits c.b % 2 ^ k) width
    ∙ ap (λ n. n % 2 ^ c.width) (sym (cond-true (sig_number digits c.s == 1) (sig_number digits c.b) (sig_number digits c.a) n)) ∙ output_of digits c op.Mux is
