-- Values that are written to the bits of roots.
use Rattle.std.specs.Prelude.{◌≡◌, ℕ, ◌+◌, ◌-◌, ◌<◌, ◌≤◌, List, length, Some, slice_get}
use Rattle.std.specs.Int.{bit_at}
use Rattle.sim_base.specs.BitValue.{BitValue}
use Rattle.circuit.specs.declared.netlist.Drive.{Drive}
use Rattle.circuit.specs.Valuation.{offset_of}
use Rattle.driver_check.specs.Depends.{Bit}
use Rattle.eval_plan.specs.Roots.{CoversIn}
use Rattle.sim_base.specs.Values.{width_at}
use Rattle.signal_words.specs.Values.{digits_in}

-- the digit that a root takes for a bit from a number
abbrev pub taken_digit : ℕ → Drive → Bit → ℕ
taken_digit number r x = bit_at number (offset_of r.by + (x.1 - r.at))

-- a root lies inside the value of its net
abbrev pub IsRootInside : List BitValue → Drive → Type 0
IsRootInside nets r = (r.net < length nets) × (r.at + r.width ≤ width_at nets r.net)

abbrev pub AreRootsInside : List BitValue → List Drive → Type 0
AreRootsInside nets roots = (i : ℕ) (r : Drive) → slice_get roots i ≡ Some r → IsRootInside nets r

-- one of the first t of the listed roots covers a bit
abbrev pub IsCovered : List Drive → List ℕ → ℕ → Bit → Type 0
IsCovered roots places t x = (j : ℕ) × (k : ℕ) × (r : Drive) × (j < t) × (slice_get places j ≡ Some k) × CoversIn roots k r x

-- the bits of the first t of the listed roots have what these take from a number, and all other bits what they had
pub record IsSpread (roots : List Drive) (places : List ℕ) (t number : ℕ) (before after : List BitValue) : Type 0 where
  pub taken : (j k : ℕ) (r : Drive) (x : Bit) → j < t → slice_get places j ≡ Some k → CoversIn roots k r x → digits_in after x.0 x.1 ≡ taken_digit number r x
  pub kept : (x : Bit) → (IsCovered roots places t x → ⊥) → digits_in after x.0 x.1 ≡ digits_in before x.0 x.1
