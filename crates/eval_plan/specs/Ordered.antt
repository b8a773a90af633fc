-- A plan in order: each node stands behind all that it depends on.
use Rattle.std.specs.Int.{bit_at}
use Rattle.std.specs.Prelude.{◌≡◌, ℕ, ◌-◌, ◌<◌, List, Some, slice_get, suc, zero, ◌+◌, Option, None}
use Rattle.circuit.specs.Valuation.{drive_of}
use Rattle.circuit.specs.declared.netlist.By.TheVariants as by
use Rattle.circuit.specs.declared.netlist.By.{By}
use Rattle.circuit.specs.declared.netlist.Circuit.{Circuit}
use Rattle.circuit.specs.declared.netlist.Drive.{Drive}
use Rattle.driver_check.specs.declared.parts.Node.TheVariants as node
use Rattle.driver_check.specs.declared.parts.Node.{Node}
use Rattle.driver_check.specs.Nodes.{NodeReads, IsNode}

-- ---- where bits come from

-- where a chain of wires ends: at a bit without a driver, a digit, or a bit of what drives
pub data SourceBit : Type 0 where
  Undriven : SourceBit
  Digit : ℕ → SourceBit
  InputBit : ℕ → ℕ → SourceBit
  CellBit : ℕ → ℕ → SourceBit
  RegBit : ℕ → ℕ → SourceBit
  ReadBit : ℕ → ℕ → ℕ → SourceBit

abbrev pub source_by : (ℕ → ℕ → Option SourceBit) → By → ℕ → Option SourceBit
source_by more (by.Const v) i = Some (Digit (bit_at v.number i))
source_by more (by.Input n at) i = Some (InputBit n (at + i))
source_by more (by.Wire n at) i = more n (at + i)
source_by more (by.Cell n at) i = Some (CellBit n (at + i))
source_by more (by.Reg n at) i = Some (RegBit n (at + i))
source_by more (by.Read m n at) i = Some (ReadBit m n (at + i))

abbrev pub source_at : (ℕ → ℕ → Option SourceBit) → ℕ → Option Drive → Option SourceBit
source_at more bit None = Some Undriven
source_at more bit (Some d) = source_by more d.by (bit - d.at)

-- the source of a bit, by fewer than so many wires
unfoldable pub source_within : Circuit → ℕ → ℕ → ℕ → Option SourceBit
source_within c zero net bit = None
source_within c (suc steps) net bit = source_at (source_within c steps) bit (drive_of c net bit)

-- ---- nodes

-- one of the first k nodes
abbrev pub IsAmong : List Node → ℕ → Node → Type 0
IsAmong nodes k n = (i : ℕ) × (i < k) × (slice_get nodes i ≡ Some n)

-- what a source takes is computed by the first k nodes, or by none
abbrev pub IsThere : Circuit → List Node → ℕ → SourceBit → Type 0
IsThere c nodes k Undriven = Unit {0}
IsThere c nodes k (Digit d) = Unit {0}
IsThere c nodes k (InputBit n at) = Unit {0}
IsThere c nodes k (CellBit n at) = IsAmong nodes k (node.Cell n)
IsThere c nodes k (RegBit n at) = Unit {0}
IsThere c nodes k (ReadBit m n at) = IsNode c (node.Read m n) → IsAmong nodes k (node.Read m n)

-- the bit is final after the first k nodes
abbrev pub IsFinal : Circuit → List Node → ℕ → ℕ → ℕ → Type 0
IsFinal c nodes k net bit = (s : ℕ) (o : SourceBit) → source_within c s net bit ≡ Some o → IsThere c nodes k o

pub record IsOrdered (c : Circuit) (nodes : List Node) : Type 0 where
  -- each node is there, and each that is there is a node once
  pub there : (k : ℕ) (n : Node) → slice_get nodes k ≡ Some n → IsNode c n
  pub every : (n : Node) → IsNode c n → (k : ℕ) × (slice_get nodes k ≡ Some n)
  pub single : (i j : ℕ) (n : Node) → slice_get nodes i ≡ Some n → slice_get nodes j ≡ Some n → i ≡ j
  -- what a node reads is final after those before it
  pub ready : (k net bit : ℕ) (n : Node) → slice_get nodes k ≡ Some n → NodeReads c n net bit → IsFinal c nodes k net bit
  -- each bit has a source
  pub sourced : (net bit : ℕ) → (s : ℕ) × (o : SourceBit) × (source_within c s net bit ≡ Some o)
