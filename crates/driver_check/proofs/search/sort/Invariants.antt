use Rattle.std.proofs.Common.{◌≡◌, ℕ, ◌<◌, length, []}
use Rattle.driver_check.specs.Search.{Has, row_of, size_of_graph}
use Rattle.driver_check.specs.Invariants.{IsSearch}
use Rattle.driver_check.specs.declared.search.Mark.TheVariants as mark
use Rattle.driver_check.proofs.search.sort.Given as goal

abbrev pub invariant-loop-vertex : goal.invariant-loop-vertex
invariant-loop-vertex l = record {
  size : length l.search.marks.items ≡ size_of_graph l.graph;
  empty : l.search.stack.items ≡ [];
  met : (v : ℕ) → v < l.vertex → Has l.search.marks.items mark.New v → ⊥;
  search : IsSearch (row_of l.graph) l.search.marks.items l.search.order.items [];
}
