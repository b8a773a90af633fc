-- The nodes that read the bits of each root.
use Rattle.std.specs.Prelude.{◌≡◌, ℕ, ◌<◌, List, Some, slice_get}
use Rattle.circuit.specs.declared.netlist.Circuit.{Circuit}
use Rattle.circuit.specs.declared.netlist.Drive.{Drive}
use Rattle.driver_check.specs.declared.parts.Node.{Node}
use Rattle.driver_check.specs.Depends.{Bit}
use Rattle.driver_check.specs.Nodes.{NodeReads}
use Rattle.eval_plan.specs.declared.table.Table.{Table}
use Rattle.eval_plan.specs.Roots.{CoversIn}
use Rattle.eval_plan.specs.Sources.{TakesPart}
use Rattle.eval_plan.specs.Tables.{Lists, table_row}

-- the node at a place reads a bit that the root at a place covers
pub record IsReader (c : Circuit) (nodes : List Node) (roots : List Drive) (root place : ℕ) : Type 0 where
  pub node : Node
  pub drive : Drive
  pub bit : Bit
  pub at : slice_get nodes place ≡ Some node
  pub reads : NodeReads c node bit.0 bit.1
  pub covered : CoversIn roots root drive bit

-- for each root the places of its readers
abbrev pub AreReaders : Circuit → List Node → List Drive → Table → Type 0
AreReaders c nodes roots t = (root : ℕ) → Lists (IsReader c nodes roots root) (table_row t root)

-- what reads a root of a node stands behind that node
abbrev pub DoReadersFollow : List Node → List Drive → Table → Type 0
DoReadersFollow nodes roots t = (i root j k : ℕ) (n : Node) (r : Drive) → slice_get nodes i ≡ Some n → slice_get roots root ≡ Some r → TakesPart n r.by → slice_get (table_row t root) j ≡ Some k → i < k
