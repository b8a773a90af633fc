use Rattle.std.proofs.Common.{◌≡◌, ◌+◌, length}
use Rattle.design_starts.specs.Chains.{IsOnWay, one_wire, wires_left}
use Rattle.design_starts.proofs.chains.Chains.walk.Given as goal

abbrev pub invariant-wires : goal.invariant-wires
invariant-wires l = record {
  places : l.self.places ≡ l.fn.self.places;
  long : length l.self.table.items ≡ length l.fn.self.table.items;
  way : IsOnWay l.circuit (l.fn.from.0, l.fn.from.1) l.self.table.items l.path.items l.found;
}

abbrev pub decreases-wires : goal.decreases-wires
decreases-wires l = wires_left l.self.table.items + one_wire l.found
