-- The digits of `\init` on the bits of nets.
use Rattle.std.specs.Prelude.{◌≡◌, ℕ, zero, suc, List, [], ◌∷◌, ◌++◌, Bool, true, ◌&&◌, ◌==◌, nat_lt, Option, Some, None, if◌then◌else◌}
use Rattle.std.specs.Int.{bit_at}
use Rattle.sim_base.specs.BitValue.{BitValue}
use Rattle.circuit.specs.declared.netlist.Net.{Net}
use Rattle.rtlil_tree.specs.declared.sig.Const.{Const}
use Rattle.rtlil_tree.specs.declared.sig.Const.TheVariants as const
use Rattle.rtlil_signals.specs.Values.{const_value}
use Rattle.design_starts.specs.declared.marks.Mark.{Mark}

-- a digit of a constant is 0 or 1, and none of `x z m -`
abbrev pub is_definite : Const → ℕ → Bool
is_definite (const.Digits k) i = bit_at k.known i == 1
is_definite (const.Integer n) i = true
is_definite (const.String bytes) i = true

-- a constant has a digit there that is 0 or 1
abbrev pub has_digit : Const → ℕ → Bool
has_digit k i = nat_lt i (const_value k).width && is_definite k i

-- the bit of a net with its digit of a constant
abbrev pub mark : ℕ → Const → ℕ → Mark
mark net k bit = record { net = net; bit = bit; digit = bit_at (const_value k).number bit == 1 }

abbrev pub marks_at : ℕ → Const → ℕ → List Mark
marks_at net k bit = if has_digit k bit then mark net k bit ∷ [] else []

-- the digits 0 and 1 of a constant on so many bits of a net, the least bit first
unfoldable pub marks_below : ℕ → Const → ℕ → List Mark
marks_below net k zero = []
marks_below net k (suc bit) = marks_below net k bit ++ marks_at net k bit

abbrev pub marks_on : ℕ → ℕ → Option Const → List Mark
marks_on net width None = []
marks_on net width (Some k) = marks_below net k width

-- the same on all nets from one on, each with its constant if it has one
unfoldable pub marks_from : ℕ → List Net → List (Option Const) → List Mark
marks_from net [] inits = []
marks_from net (x ∷ xs) [] = []
marks_from net (x ∷ xs) (init ∷ inits) = marks_on net x.width init ++ marks_from (suc net) xs inits

-- the digits 0 and 1 of `\init` in net order
abbrev pub marks : List Net → List (Option Const) → List Mark
marks nets inits = marks_from 0 nets inits

-- ---- what the code does

-- the bits that are 1 where a digit is 0 or 1, if not all digits are
abbrev pub IsMaskOf : Const → Option BitValue → Type 0
IsMaskOf k None = (i : ℕ) → is_definite k i ≡ true
IsMaskOf k (Some m) = (m.width ≡ (const_value k).width) × ((i : ℕ) → is_definite k i ≡ (bit_at m.number i == 1))
