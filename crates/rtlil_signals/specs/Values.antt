-- The values that constants of a tree stand for.
use Rattle.std.specs.Prelude.{ℕ, ℤ, pos, negsuc, ◌+◌, ◌-◌, ◌*◌, ◌^◌, List, [], ◌∷◌, length}
use Rattle.sim_base.specs.BitValue.{BitValue, bit_value}
use Rattle.rtlil_tree.specs.declared.sig.Const.{Const}
use Rattle.rtlil_tree.specs.declared.sig.Const.TheVariants as const

-- the number that bytes stand for, the first the most significant
unfoldable pub bytes_number : List ℕ → ℕ
bytes_number [] = 0
bytes_number (b ∷ bs) = b * 2 ^ (8 * length bs) + bytes_number bs

-- 32 bits in two's complement
abbrev pub word_of : ℤ → ℕ
word_of (pos n) = n
word_of (negsuc n) = 2 ^ 32 - 1 - n

-- digits of a width; an integer in 32 bits, in two's complement; a string in 8 bits a byte
abbrev pub const_value : Const → BitValue
const_value (const.Digits c) = bit_value c.width c.value
const_value (const.Integer n) = bit_value 32 (word_of n)
const_value (const.String bytes) = bit_value (8 * length bytes) (bytes_number bytes)
