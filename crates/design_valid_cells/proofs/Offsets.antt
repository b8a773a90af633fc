-- A lesser offset fits too.
use Rattle.std.proofs.Common.{◌≡◌, ℕ, ◌+◌, ◌≤◌, true, arith}
use Rattle.std.specs.Prelude.{nat_le}
use Rattle.std.proofs.lemmas.Bool.{and_from, and_parts, le-leb, leb-true}
use Rattle.circuit.specs.Valid.{Widths, is_unary, widths_fit}
use Rattle.circuit.specs.declared.cell.Op.{Op}
use Rattle.circuit.specs.declared.cell.Op.TheVariants as op

pub less_offset : (o : Op) (w : Widths) (offset : ℕ) → offset ≤ w.offset → widths_fit o w ≡ true → widths_fit o (record w { offset = offset }) ≡ true
less_offset op.Not w offset le h = h
less_offset op.Pos w offset le h = h
less_offset op.Neg w offset le h = h
less_offset op.And w offset le h = h
less_offset op.Or w offset le h = h
less_offset op.Xor w offset le h = h
less_offset op.Xnor w offset le h = h
less_offset op.ReduceAnd w offset le h = h
less_offset op.ReduceOr w offset le h = h
less_offset op.ReduceBool w offset le h = h
less_offset op.ReduceXor w offset le h = h
less_offset op.ReduceXnor w offset le h = h
less_offset op.LogicNot w offset le h = h
less_offset op.LogicAnd w offset le h = h
less_offset op.LogicOr w offset le h = h
less_offset op.Add w offset le h = h
less_offset op.Sub w offset le h = h
less_offset op.Mul w offset le h = h
less_offset op.Div w offset le h = h
less_offset op.Mod w offset le h = h
less_offset op.DivFloor w offset le h = h
less_offset op.ModFloor w offset le h = h
less_offset op.Lt w offset le h = h
less_offset op.Le w offset le h = h
less_offset op.Eq w offset le h = h
less_offset op.Ne w offset le h = h
less_offset op.Ge w offset le h = h
less_offset op.Gt w offset le h = h
less_offset op.Eqx w offset le h = h
less_offset op.Nex w offset le h = h
less_offset op.Shl w offset le h = h
less_offset op.Sshl w offset le h = h
less_offset op.Shr w offset le h = h
less_offset op.Sshr w offset le h = h
less_offset op.Shift w offset le h = h
less_offset op.Shiftx w offset le h = h
less_offset op.Mux w offset le h = h
less_offset op.Pmux w offset le h = h
less_offset op.Bmux w offset le h = h
less_offset op.Demux w offset le h = h
less_offset op.Bwmux w offset le h = h
less_offset op.Bweqx w offset le h = h
less_offset op.Slice w offset le h =
    let both = and_parts (nat_le (w.offset + w.width) w.a) (is_unary w) h in
    let within : w.offset + w.width ≤ w.a = leb-true (w.offset + w.width) w.a both.0 in
    and_from (nat_le (offset + w.width) w.a) (is_unary w) (le-leb (offset + w.width) w.a (omega (arith, within, le))) both.1
less_offset op.Concat w offset le h = h
