-- The nodes of a circuit, which are its combinational cells and its read ports without a clock, and the places of all cells and
-- read ports: the cells, and behind them the read ports of each memory, those with a clock too.
use Rattle.std.specs.Prelude.{◌≡◌, ℕ, ◌<◌, List, length, Some, slice_get, slice_index, false, ◌+◌}
use Rattle.circuit.specs.declared.memory.Mem.{Mem}
use Rattle.circuit.specs.declared.memory.ReadPort.{ReadPort}
use Rattle.circuit.specs.declared.netlist.Circuit.{Circuit}
use Rattle.driver_check.specs.declared.parts.Node.TheVariants as node
use Rattle.driver_check.specs.declared.parts.Node.{Node}
use Rattle.driver_check.specs.Depends.{CellReads, MemReads}
use Rattle.driver_check.specs.Numbers.{before, read_count}

abbrev pub part_place : Circuit → Node → ℕ
part_place c (node.Cell n) = n
part_place c (node.Read m n) = length c.cells + (before read_count c.mems m + n)

-- a cell or a read port is there
abbrev pub IsPart : Circuit → Node → Type 0
IsPart c (node.Cell n) = n < length c.cells
IsPart c (node.Read m n) = (x : Mem) × (slice_get c.mems m ≡ Some x) × (n < length x.reads)

-- each of the nodes is there and stands at its place
abbrev pub ArePlaced : Circuit → List Node → Type 0
ArePlaced c nodes = (k : ℕ) (n : Node) → slice_get nodes k ≡ Some n → IsPart c n × (part_place c n ≡ k)

-- all cells and read ports, each at its place, and the places of the first port of each memory
pub record AreParts (c : Circuit) (nodes : List Node) (ports : List ℕ) : Type 0 where
  pub long : length nodes ≡ length c.cells + before read_count c.mems (length c.mems)
  pub placed : ArePlaced c nodes
  pub every : (n : Node) → IsPart c n → slice_get nodes (part_place c n) ≡ Some n
  pub ports_long : length ports ≡ length c.mems
  pub first_port : (m : ℕ) → m < length c.mems → slice_index ports m ≡ length c.cells + before read_count c.mems m

-- ---- nodes

-- a node reads a bit
abbrev pub NodeReads : Circuit → Node → ℕ → ℕ → Type 0
NodeReads c (node.Cell n) net bit = CellReads (slice_get c.cells n) net bit
NodeReads c (node.Read m n) net bit = MemReads (slice_get c.mems m) n net bit

-- a cell, or a read port without a clock, is there
abbrev pub IsNode : Circuit → Node → Type 0
IsNode c (node.Cell n) = n < length c.cells
IsNode c (node.Read m n) = (x : Mem) × (p : ReadPort) × (slice_get c.mems m ≡ Some x) × (slice_get x.reads n ≡ Some p) × (p.clocked ≡ false)
