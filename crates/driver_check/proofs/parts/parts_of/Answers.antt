use Rattle.std.proofs.Common.{◌≡◌, ℕ, ◌+◌, List, length, ap, subst, arith, ◌∙◌, Some}
use Rattle.std.specs.Prelude.{slice_get}
use Rattle.circuit.specs.declared.memory.Mem.{Mem}
use Rattle.driver_check.specs.Numbers.{before, read_count}
use Rattle.driver_check.proofs.Places.{read}
use Rattle.driver_check.proofs.Fitting.{port_count}
use Rattle.driver_check.proofs.Numbered.{before_zero}
use Rattle.driver_check.proofs.Placed.{all_placed}
use Rattle.driver_check.proofs.parts.parts_of.Goals as goal

pub loop-place-init : goal.loop-place-init
loop-place-init c =
    let none = before_zero read_count c.args.circuit.now.mems in
    record {
      long = omega (arith, c.in_ok-push_cells.ensures.long, none);
      placed = c.in_ok-push_cells.ensures.placed;
      ports_long = ap length c.new-ports.ensures.items;
      first_port = λ m lt. absurd (omega (arith, lt));
    }

pub push_ports-requires-clause-there : goal.push_ports-requires-clause-there
push_ports-requires-clause-there c =
    subst (λ (xs : List Mem). slice_get xs c.loop-place.place ≡ Some c.mem-item.result) c.as_slice-mem-items.ensures (read c.as_slice-mem-items.result.now c.loop-place.place c.mem-item.result (omega arith) c.mem-item.is)

pub push_ports-requires-clause-few_ports : goal.push_ports-requires-clause-few_ports
push_ports-requires-clause-few_ports c =
    port_count c.args.circuit.now c.requires c.loop-place.place c.mem-item.result
    (subst (λ (xs : List Mem). slice_get xs c.loop-place.place ≡ Some c.mem-item.result) c.as_slice-mem-items.ensures (read c.as_slice-mem-items.result.now c.loop-place.place c.mem-item.result (omega arith) c.mem-item.is))

pub returns : goal.returns
returns c =
    let circuit = c.args.circuit.now in
    let end : c.loop-place.place ≡ length circuit.mems = omega (arith, ap (λ (xs : List Mem). length xs) c.as_slice-mem-items.ensures) in
    let long : length c.loop-place.nodes.items ≡ length circuit.cells + before read_count circuit.mems (length circuit.mems) =
    c.loop-place.invariant.long ∙ ap (λ (n : ℕ). length circuit.cells + before read_count circuit.mems n) end in
    record {
      long = long;
      placed = c.loop-place.invariant.placed;
      every = all_placed circuit c.loop-place.nodes.items c.loop-place.invariant.placed long;
      ports_long = c.loop-place.invariant.ports_long ∙ end;
      first_port = λ m lt. c.loop-place.invariant.first_port m (omega (arith, lt, end));
    }
