-- What the nodes of a plan compute.
use Rattle.std.specs.Prelude.{◌≡◌, ℕ, List, length, Option, Some, None, slice_get}
use Rattle.sim_base.specs.BitValue.{digit_of}
use Rattle.circuit.specs.Signal.{Digits, sig_number}
use Rattle.circuit.specs.Output.{output}
use Rattle.circuit.specs.State.{addressed_row}
use Rattle.circuit.specs.declared.netlist.Circuit.{Circuit}
use Rattle.circuit.specs.declared.cell.Cell.{Cell}
use Rattle.circuit.specs.declared.memory.Mem.{Mem}
use Rattle.circuit.specs.declared.memory.ReadPort.{ReadPort}
use Rattle.eval_plan.specs.Sources.{cell_row, read_row}
use Rattle.driver_check.specs.declared.parts.Node.{Node}
use Rattle.driver_check.specs.declared.parts.Node.TheVariants as node
use Rattle.eval_plan.specs.declared.sources.Sources.{Sources}
use Rattle.memory_cells.specs.Rows.{AreRowsOf, RowValues}
use Rattle.cell_changes.specs.Changes.{has_changed}

-- the places of the roots that take from a node
abbrev pub node_row : Sources → Node → List ℕ
node_row s (node.Cell n) = cell_row s n
node_row s (node.Read m n) = read_row s m n

abbrev pub cell_number : Digits → Option Cell → ℕ
cell_number digits None = 0
cell_number digits (Some x) = output digits x

abbrev pub port_row : Digits → Mem → RowValues → Option ReadPort → ℕ
port_row digits m r None = 0
port_row digits m r (Some p) = addressed_row m r.rows (sig_number digits p.addr)

abbrev pub read_number : Digits → Option Mem → Option RowValues → ℕ → ℕ
read_number digits (Some m) (Some r) n = port_row digits m r (slice_get m.reads n)
read_number digits _ _ n = 0

-- the output of a cell, or the row at the address of a read port
abbrev pub computed : Circuit → List RowValues → Digits → Node → ℕ
computed c rows digits (node.Cell n) = cell_number digits (slice_get c.cells n)
computed c rows digits (node.Read m n) = read_number digits (slice_get c.mems m) (slice_get rows m) n

-- 1 for a cell of which some bit that it reads differs between two valuations
abbrev pub cell_changes : Digits → Digits → Option Cell → ℕ
cell_changes before now None = 0
cell_changes before now (Some x) = digit_of (has_changed before now x)

-- a number of a cell, and 0 for a read port
abbrev pub of_cell : (ℕ → ℕ) → Node → ℕ
of_cell f (node.Cell n) = f n
of_cell f (node.Read m n) = 0

abbrev pub node_changes : Circuit → Digits → Digits → Node → ℕ
node_changes c before now = of_cell (λ n. cell_changes before now (slice_get c.cells n))

-- the rows of each memory
pub record AreAllRows (c : Circuit) (rows : List RowValues) : Type 0 where
  pub long : length rows ≡ length c.mems
  pub each : (n : ℕ) (m : Mem) (r : RowValues) → slice_get c.mems n ≡ Some m → slice_get rows n ≡ Some r → AreRowsOf m r
