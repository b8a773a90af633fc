use Rattle.std.proofs.Common.{◌≡◌, ◌∙◌, sym, refl, arith, None, rules}
use Rattle.std.proofs.lemmas.Grind.{common_steps}
use Rattle.flat_design.specs.Cells.{with_cells}
use Rattle.flat_design.proofs.Flatness.{flat_circuit}
use Rattle.flat_design.proofs.Elaborated.{no_form, no_cells, whole, room_wires, room_nets, room_inputs, room_cells, room_regs}
use Rattle.flat_design.proofs.elaboration.elaborate.Goals as goal

pub returns-then-not-has_known_form-clause-not_built : goal.returns-then-not-has_known_form-clause-not_built
returns-then-not-has_known_form-clause-not_built c = λ e. no_form c.args.flat.now (sym c.has_known_form.ensures ∙ c.if-not-has_known_form.true)

pub add_wires-requires-clause-nets : goal.add_wires-requires-clause-nets
add_wires-requires-clause-nets c =
    room_nets c.args.flat.now (sym c.has_known_form.ensures ∙ c.if-not-has_known_form.false) c.as_slice-wires.result.now c.args.flat.now.cells c.as_slice-wires.ensures refl c.in_ok-circuit.circuit c.in_ok-circuit.ensures.ok

pub add_wires-requires-clause-inputs : goal.add_wires-requires-clause-inputs
add_wires-requires-clause-inputs c =
    room_inputs c.args.flat.now (sym c.has_known_form.ensures ∙ c.if-not-has_known_form.false) c.as_slice-wires.result.now c.args.flat.now.cells c.as_slice-wires.ensures refl c.in_ok-circuit.circuit c.in_ok-circuit.ensures.ok

pub add_cells-requires-clause-few : goal.add_cells-requires-clause-few
add_cells-requires-clause-few c =
    room_wires c.args.flat.now (sym c.has_known_form.ensures ∙ c.if-not-has_known_form.false) c.as_slice-wires.result.now c.args.flat.now.cells c.as_slice-wires.ensures refl c.in_ok-circuit.circuit c.in_ok-circuit.ensures.ok

pub add_cells-requires-clause-cells : goal.add_cells-requires-clause-cells
add_cells-requires-clause-cells c =
    room_cells c.args.flat.now (sym c.has_known_form.ensures ∙ c.if-not-has_known_form.false) c.as_slice-wires.result.now c.as_slice.result.now c.as_slice-wires.ensures c.as_slice.ensures c.in_ok-circuit.circuit c.in_ok-circuit.ensures.ok
    c.add_wires.new.circuit c.in_ok-add_wires.ensures.cells.0 c.in_ok-add_wires.ensures.cells.1

pub add_cells-requires-clause-regs : goal.add_cells-requires-clause-regs
add_cells-requires-clause-regs c =
    room_regs c.args.flat.now (sym c.has_known_form.ensures ∙ c.if-not-has_known_form.false) c.as_slice-wires.result.now c.as_slice.result.now c.as_slice-wires.ensures c.as_slice.ensures c.in_ok-circuit.circuit c.in_ok-circuit.ensures.ok
    c.add_wires.new.circuit c.in_ok-add_wires.ensures.cells.0 c.in_ok-add_wires.ensures.cells.1

pub items_of-requires : goal.items_of-requires
items_of-requires c =
    room_wires c.args.flat.now (sym c.has_known_form.ensures ∙ c.if-not-has_known_form.false) c.as_slice-wires.result.now c.args.flat.now.cells c.as_slice-wires.ensures refl c.in_ok-circuit.circuit c.in_ok-circuit.ensures.ok

pub returns-in_err-add_cells-clause-not_built : goal.returns-in_err-add_cells-clause-not_built
returns-in_err-add_cells-clause-not_built c = λ e.
    let none : with_cells c.as_slice-wires.result.now c.add_wires.new.circuit c.as_slice.result.now ≡ None = first_of (search rules, grind (arith, common_steps)) in
    no_cells c.args.flat.now (sym c.has_known_form.ensures ∙ c.if-not-has_known_form.false) c.as_slice-wires.result.now c.as_slice.result.now c.as_slice-wires.ensures c.as_slice.ensures c.in_ok-circuit.circuit c.in_ok-circuit.ensures.ok
    c.add_wires.new.circuit c.in_ok-add_wires.ensures.ok none

pub returns-clause-ok : goal.returns-clause-ok
returns-clause-ok c =
    whole c.args.flat.now (sym c.has_known_form.ensures ∙ c.if-not-has_known_form.false) c.as_slice-wires.result.now c.as_slice.result.now c.as_slice-wires.ensures c.as_slice.ensures c.in_ok-circuit.circuit c.in_ok-circuit.ensures.ok
    c.add_wires.new.circuit c.in_ok-add_wires.ensures.ok c.add_cells.new.circuit c.in_ok-circuit-2.field-0 c.in_ok-add_cells.ensures.ok c.in_ok-circuit-2.ensures.ok

pub returns-clause-flat : goal.returns-clause-flat
returns-clause-flat c = flat_circuit c.args.flat.now _ (returns-clause-ok c)
