-- The circuit of a flat module.
use Rattle.std.specs.Prelude.{List, [], ◌∷◌, length, map, Bool, ◌&&◌, nat_le, Option, None, option_map, if◌then◌else◌}
use Rattle.std.specs.List.{list_all}
use Rattle.flat_text.specs.declared.module.Module.{Module}
use Rattle.flat_text.specs.declared.module.Wire.{Wire}
use Rattle.circuit.specs.declared.netlist.Circuit.{Circuit}
use Rattle.flat_design.specs.Names.{are_distinct, bare_name}
use Rattle.flat_design.specs.Wires.{is_wire, with_wires}
use Rattle.flat_design.specs.Cells.{with_cells}
use Rattle.flat_design.specs.Labels.{items_of}

-- at most 1,000 wires and 1,000 cells, whose names differ, and wires of a form that is known
unfoldable pub has_known_form : Module → Bool
has_known_form m =
    (nat_le (length m.wires) 1000 && nat_le (length m.cells) 1000)
    && ((are_distinct (map (λ w. w.name) m.wires) && are_distinct (map (λ x. x.name) m.cells)) && list_all is_wire m.wires)

-- one scope, and nothing in it yet
unfoldable pub frame_of : Module → Circuit
frame_of m = record {
  nets = [];
  drives = [];
  cells = [];
  regs = [];
  mems = [];
  inputs = [];
  items = [];
  scopes = record { name = []; «module» = bare_name m.name; module_src = None; cell_src = None } ∷ [];
  diags = [];
}

abbrev pub with_items : List Wire → Circuit → Circuit
with_items wires c = record c { items = items_of wires }

unfoldable pub circuit_of : Module → Option Circuit
circuit_of m = if has_known_form m
    then option_map (with_items m.wires) (with_cells m.wires (with_wires (frame_of m) m.wires) m.cells)
    else None
