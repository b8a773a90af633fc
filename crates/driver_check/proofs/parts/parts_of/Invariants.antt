use Rattle.std.proofs.Common.{◌≡◌, ℕ, ◌+◌, ◌<◌, length}
use Rattle.std.specs.Prelude.{slice_index}
use Rattle.driver_check.specs.Numbers.{before, read_count}
use Rattle.driver_check.specs.Nodes.{ArePlaced}
use Rattle.driver_check.proofs.parts.parts_of.Given as goal

abbrev pub invariant-loop-place : goal.invariant-loop-place
invariant-loop-place l = record {
  long : length l.nodes.items ≡ length l.circuit.cells + before read_count l.circuit.mems l.place;
  placed : ArePlaced l.circuit l.nodes.items;
  ports_long : length l.ports.items ≡ l.place;
  first_port : (m : ℕ) → m < l.place → slice_index l.ports.items m ≡ length l.circuit.cells + before read_count l.circuit.mems m;
}
