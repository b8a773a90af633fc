-- What holds while bits are followed to registers: no reader of the public definitions needs it.
use Rattle.std.specs.Prelude.{◌≡◌, ◌⊎◌, ℕ, zero, suc, ◌+◌, ◌-◌, ◌<◌, List, [], ◌∷◌, length, Option, Some, None, slice_get}
use Rattle.circuit.specs.Valuation.{drive_of}
use Rattle.circuit.specs.declared.netlist.By.{By}
use Rattle.circuit.specs.declared.netlist.By.TheVariants as by
use Rattle.circuit.specs.declared.netlist.Circuit.{Circuit}
use Rattle.circuit.specs.declared.netlist.Drive.{Drive}
use Rattle.driver_check.specs.Depends.{Bit}
use Rattle.driver_check.specs.Numbers.{IsBit, bit_number}
use Rattle.design_starts.specs.Origins.{origin_within}
use Rattle.design_starts.specs.declared.taken.Taken.{Taken}
use Rattle.design_starts.specs.declared.taken.Taken.TheVariants as taken

-- ---- one step

abbrev pub taken_by : By → ℕ → Taken
taken_by (by.Reg register at) i = taken.Register register (at + i)
taken_by (by.Wire net at) i = taken.Bit net (at + i)
taken_by _ i = taken.Nothing

abbrev pub taken_at : ℕ → Option Drive → Taken
taken_at bit None = taken.Nothing
taken_at bit (Some d) = taken_by d.by (bit - d.at)

-- what a bit is taken from by its first drive
abbrev pub taken_of : Circuit → Bit → Taken
taken_of c x = taken_at x.1 (drive_of c x.0 x.1)

-- ---- a table of bits

-- what a bit comes from
abbrev pub IsOrigin : Circuit → Bit → Taken → Type 0
IsOrigin c x taken.Nothing = (s : ℕ) → origin_within c s x.0 x.1 ≡ None
IsOrigin c x (taken.Bit net bit) = ⊥
IsOrigin c x (taken.Register register bit) = (s : ℕ) × (origin_within c s x.0 x.1 ≡ Some (register, bit))

-- a bit was not looked at yet, or it is known what it comes from
abbrev pub IsKnown : Circuit → Bit → Taken → Type 0
IsKnown c x t = (t ≡ taken_of c x) ⊎ IsOrigin c x t

abbrev pub Stands : Circuit → List Taken → Bit → Taken → Type 0
Stands c table x t = slice_get table (bit_number c.nets x) ≡ Some t

abbrev pub IsTable : Circuit → List Taken → Type 0
IsTable c table = (x : Bit) (t : Taken) → IsBit c.nets x → Stands c table x t → IsKnown c x t

-- ---- a walk along wires

-- so many wires lead from one bit to another
unfoldable pub Leads : Circuit → ℕ → Bit → Bit → Type 0
Leads c zero x y = x ≡ y
Leads c (suc wires) x y = (z : Bit) × IsBit c.nets x × (taken_of c x ≡ taken.Bit z.0 z.1) × Leads c wires z y

-- a place was passed
abbrev pub IsPassed : List ℕ → ℕ → Type 0
IsPassed path place = (k : ℕ) × (slice_get path k ≡ Some place)

-- a walk that has come to a bit: the bits that it passed lead there, and nothing stands in their places
pub record IsWalking (c : Circuit) (from : Bit) (table : List Taken) (path : List ℕ) (at : Bit) : Type 0 where
  pub start : (wires : ℕ) × Leads c wires from at
  pub passed : (x : Bit) → IsBit c.nets x → IsPassed path (bit_number c.nets x) → (wires : ℕ) × Leads c (suc wires) x at
  pub inside : (k place : ℕ) → slice_get path k ≡ Some place → place < length table
  pub known : (x : Bit) (t : Taken) → IsBit c.nets x → Stands c table x t
      → (IsPassed path (bit_number c.nets x) × (t ≡ taken.Nothing)) ⊎ IsKnown c x t

-- a walk at its end: it is known what the bits that it passed come from
pub record IsWalked (c : Circuit) (from : Bit) (table : List Taken) (path : List ℕ) (end : Taken) : Type 0 where
  pub start : IsOrigin c from end
  pub passed : (x : Bit) → IsBit c.nets x → IsPassed path (bit_number c.nets x) → IsOrigin c x end
  pub inside : (k place : ℕ) → slice_get path k ≡ Some place → place < length table
  pub known : (x : Bit) (t : Taken) → IsBit c.nets x → Stands c table x t
      → IsPassed path (bit_number c.nets x) ⊎ IsKnown c x t

-- a walk that goes on from a bit, or has ended
abbrev pub IsOnWay : Circuit → Bit → List Taken → List ℕ → Taken → Type 0
IsOnWay c from table path taken.Nothing = IsWalked c from table path taken.Nothing
IsOnWay c from table path (taken.Bit net bit) = IsWalking c from table path (net, bit)
IsOnWay c from table path (taken.Register register bit) = IsWalked c from table path (taken.Register register bit)

-- how many wires are left to be passed
abbrev pub one_wire : Taken → ℕ
one_wire taken.Nothing = 0
one_wire (taken.Bit net bit) = 1
one_wire (taken.Register register bit) = 0

unfoldable pub wires_left : List Taken → ℕ
wires_left [] = 0
wires_left (t ∷ ts) = one_wire t + wires_left ts
