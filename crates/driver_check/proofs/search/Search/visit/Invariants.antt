use Rattle.std.proofs.Common.{◌≡◌, length}
use Rattle.driver_check.specs.Search.{Has, row_of}
use Rattle.driver_check.specs.Invariants.{IsNoNewer, IsSearch, turns}
use Rattle.driver_check.specs.declared.search.Mark.TheVariants as mark
use Rattle.driver_check.proofs.search.Search.visit.Given as goal

abbrev pub invariant-turns : goal.invariant-turns
invariant-turns l = record {
  size : length l.self.marks.items ≡ length l.fn.self.marks.items;
  newer : IsNoNewer l.fn.self.marks.items l.self.marks.items;
  met : Has l.self.marks.items mark.New l.vertex → ⊥;
  search : IsSearch (row_of l.graph) l.self.marks.items l.self.order.items l.self.stack.items;
}

abbrev pub decreases-turns : goal.decreases-turns
decreases-turns l = turns (row_of l.graph) l.self.marks.items l.self.stack.items
