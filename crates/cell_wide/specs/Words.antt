-- Numbers that are given by their digits, the least first, without an end: for each number of digits the number that so
-- many of the lowest make.
use Rattle.std.specs.Prelude.{◌≡◌, ℕ, ◌+◌, ◌-◌, ◌*◌, ◌%◌, ◌^◌, min, bit_and, bit_or, bit_xor, Bool, if◌then◌else◌}
use Rattle.sim_base.specs.BitValue.{BitValue}
use Rattle.circuit.specs.declared.cell.Op.{Op}
use Rattle.circuit.specs.declared.cell.Op.TheVariants as op
use Rattle.cell_wide.specs.declared.words.Bitwise.{Bitwise}
use Rattle.cell_wide.specs.declared.words.Bitwise.TheVariants as by

-- `result` is the number of the n lowest digits, and `next` has those above
abbrev pub Passes : (ℕ → ℕ) → ℕ → ℕ → (ℕ → ℕ) → Type 0
Passes low n result next = (w : ℕ) → low (n + w) ≡ next w * 2 ^ n + result

-- the digits of a number, and then zeros
abbrev pub low_of_number : ℕ → ℕ → ℕ
low_of_number number w = number % 2 ^ w

-- ones or zeros
abbrev pub low_of_fill : Bool → ℕ → ℕ
low_of_fill ones w = if ones then 2 ^ w - 1 else 0

-- the `left` lowest digits of one below those of another
abbrev pub low_of_chain : (ℕ → ℕ) → ℕ → (ℕ → ℕ) → ℕ → ℕ
low_of_chain low left high w = high (w - left) * 2 ^ min w left + low (min w left)

-- each digit the other way round
abbrev pub low_of_inverse : (ℕ → ℕ) → ℕ → ℕ
low_of_inverse low w = (2 ^ w - 1) - low w

-- digit by digit
abbrev pub combined : Bitwise → ℕ → ℕ → ℕ
combined by.And a b = bit_and a b
combined by.Or a b = bit_or a b
combined by.Xor a b = bit_xor a b

-- the digits of an operand: those of a signal, and behind its last one ones or zeros
abbrev pub low_of_operand : BitValue → ℕ → Bool → ℕ → ℕ
low_of_operand signal left ones w = low_of_chain (low_of_number signal.number) left (low_of_fill ones) w

-- what a type of cell makes of two numbers with w digits, digit by digit; other types keep the first
abbrev pub digitwise : Op → ℕ → ℕ → ℕ → ℕ
digitwise op.And w a b = bit_and a b
digitwise op.Or w a b = bit_or a b
digitwise op.Xor w a b = bit_xor a b
digitwise op.Xnor w a b = (2 ^ w - 1) - bit_xor a b
digitwise op.Not w a b = (2 ^ w - 1) - a
digitwise _ w a b = a
