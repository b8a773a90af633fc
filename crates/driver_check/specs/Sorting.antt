-- A circuit whose bits have one drive each, sorted.
use Rattle.std.specs.Prelude.{◌≡◌, length}
use Rattle.circuit.specs.Acyclic.{IsDrivenOnce}
use Rattle.circuit.specs.declared.netlist.Circuit.{Circuit}
use Rattle.driver_check.specs.declared.sorting.Sorting.{Sorting}
use Rattle.driver_check.specs.Nodes.{AreParts}
use Rattle.driver_check.specs.Numbers.{IsNumbering}
use Rattle.driver_check.specs.Owners.{AreOwners}
use Rattle.driver_check.specs.Search.{IsSorted, row_of, size_of_graph}
use Rattle.driver_check.specs.Vertices.{IsGraphOf}

pub record IsSorting (c : Circuit) (s : Sorting) : Type 0 where
  pub numbers : IsNumbering c.nets s.numbering.firsts.items s.numbering.bits
  pub owners_long : length s.owners.items ≡ s.numbering.bits
  pub owners : AreOwners c (length c.drives) s.owners.items
  pub parts : AreParts c s.parts.nodes.items s.parts.ports.items
  pub graph : IsGraphOf c s.parts.nodes.items s.graph.bits.items s.graph.nodes.items
  pub sorted : IsSorted (row_of s.graph) (size_of_graph s.graph) s.search.marks.items s.search.order.items
  pub once : IsDrivenOnce c
