use Rattle.std.proofs.Common.{◌≡◌, ℕ, ◌+◌, ◌*◌, ◌^◌, ◌≤◌, List, length, sym, ◌∙◌, ap, subst, arith, Some}
use Rattle.std.specs.Prelude.{slice_get}
use Rattle.circuit.specs.declared.netlist.By.{By}
use Rattle.circuit.specs.declared.netlist.Net.{Net}
use Rattle.driver_check.specs.Numbers.{before, bit_count, width_of}
use Rattle.driver_check.specs.Vertices.{by_span, span_of}
use Rattle.driver_check.specs.Nodes.{part_place}
use Rattle.driver_check.specs.declared.parts.Node.TheVariants as node
use Rattle.driver_check.proofs.Fitting.{bits_bound, cell_count, cell_there, net_width, port_there, wire_there}
use Rattle.driver_check.proofs.rows.drive_span.Goals as goal

pub number-requires-clause-inside : goal.number-requires-clause-inside
number-requires-clause-inside c =
    let x = wire_there c.args.circuit.now c.requires.valid c.args.drive.now c.requires.fits c.in-Wire.net c.in-Wire.at c.in-Wire.is in
    subst (λ (nets : List Net). (n : Net) × (slice_get nets c.in-Wire.net ≡ Some n) × (c.in-Wire.at ≤ n.width)) (sym c.as_slice.ensures) (x.0, x.1, omega (arith, x.2))

pub number-requires-clause-few : goal.number-requires-clause-few
number-requires-clause-few c =
    let h : bit_count c.args.circuit.now.nets ≤ 65536 * 2 ^ 32 = bits_bound c.args.circuit.now c.requires.valid (length c.args.circuit.now.nets) in
    let e = ap (λ (nets : List Net). bit_count nets) c.as_slice.ensures in
    omega (arith, h, e)

pub overflow_add-result : goal.overflow_add-result
overflow_add-result c =
    let x = wire_there c.args.circuit.now c.requires.valid c.args.drive.now c.requires.fits c.in-Wire.net c.in-Wire.at c.in-Wire.is in
    let w = net_width c.args.circuit.now c.requires.valid c.in-Wire.net x.0 x.1 in
    omega (arith, c.number.ensures.few, c.requires.offset, x.2, w)

pub overflow_add-result-in-Cell : goal.overflow_add-result-in-Cell
overflow_add-result-in-Cell c =
    let h : bit_count c.args.circuit.now.nets ≤ 65536 * 2 ^ 32 = bits_bound c.args.circuit.now c.requires.valid (length c.args.circuit.now.nets) in
    let lt = cell_there c.args.circuit.now c.requires.valid c.args.drive.now c.requires.fits c.in-Cell.cell c.in-Cell.field-1 c.in-Cell.is in
    let few = cell_count c.args.circuit.now c.requires.valid in
    omega (arith, h, lt, few, c.requires.numbers.total)

pub port_place-requires-clause-there : goal.port_place-requires-clause-there
port_place-requires-clause-there c = port_there c.args.circuit.now c.requires.valid c.args.drive.now c.requires.fits c.in-Read.mem c.in-Read.port c.in-Read.field-2 c.in-Read.is

pub overflow_add-result-in-Read : goal.overflow_add-result-in-Read
overflow_add-result-in-Read c =
    let h : bit_count c.args.circuit.now.nets ≤ 65536 * 2 ^ 32 = bits_bound c.args.circuit.now c.requires.valid (length c.args.circuit.now.nets) in
    omega (arith, h, c.requires.numbers.total, c.port_place.ensures.below)

pub returns-in-Wire : goal.returns-in-Wire
returns-in-Wire c =
    let e : c.number.result ≡ before width_of c.args.circuit.now.nets c.in-Wire.net + c.in-Wire.at =
    c.number.ensures.value ∙ ap (λ (nets : List Net). before width_of nets c.in-Wire.net + c.in-Wire.at) c.as_slice.ensures in
    ap (λ (n : ℕ). span_of (n + c.args.offset) 1) e ∙ sym (ap (λ (b : By). by_span c.args.circuit.now b c.args.offset) c.in-Wire.is)

pub returns-in-Cell : goal.returns-in-Cell
returns-in-Cell c =
    ap (λ (n : ℕ). span_of (n + c.in-Cell.cell) 1) c.requires.numbers.total ∙ sym (ap (λ (b : By). by_span c.args.circuit.now b c.args.offset) c.in-Cell.is)

pub returns-in-Read : goal.returns-in-Read
returns-in-Read c =
    let e : c.args.numbering.now.bits + c.port_place.result ≡ bit_count c.args.circuit.now.nets + part_place c.args.circuit.now (node.Read c.in-Read.mem c.in-Read.port) =
    ap (λ (n : ℕ). n + c.port_place.result) c.requires.numbers.total ∙ ap (λ (n : ℕ). bit_count c.args.circuit.now.nets + n) c.port_place.ensures.value in
    ap (λ (n : ℕ). span_of n 1) e ∙ sym (ap (λ (b : By). by_span c.args.circuit.now b c.args.offset) c.in-Read.is)
