-- The wires of a module as its instances are joined to them.
use Rattle.std.specs.Prelude.{ℕ, List, [], ◌∷◌, ◌++◌, Bool, false, ◌||◌, Option, Some, None, bytes_eq, if◌then◌else◌}
use Rattle.std.specs.Map.{lookup}
use Rattle.std.specs.Option.{is_some}
use Rattle.rtlil_tree.specs.declared.module.Statement.{Statement}
use Rattle.rtlil_tree.specs.declared.module.Statement.TheVariants as statement
use Rattle.rtlil_tree.specs.declared.module.Wire.{Wire}
use Rattle.design_instances.specs.declared.port.PortWire.{PortWire}

abbrev pub port_wire : Wire → PortWire
port_wire w = record { width = w.options.width; is_input = is_some w.options.input; is_output = is_some w.options.output }

-- wires by their names
abbrev pub PortWires : Type 0
PortWires = List (List ℕ × PortWire)

abbrev pub wire_named : PortWires → List ℕ → Option PortWire
wire_named ports name = lookup (bytes_eq name) ports

-- a name behind others, unless it is one of them
abbrev pub with_new : PortWires → List ℕ → PortWire → PortWires
with_new earlier name wire = if is_some (wire_named earlier name) then earlier else earlier ++ (name, wire) ∷ []

abbrev pub with_statement : PortWires → Statement → PortWires
with_statement earlier (statement.Wire w) = with_new earlier w.name (port_wire w)
with_statement earlier _ = earlier

-- the wires among statements behind earlier ones, in their order; of equal names the first
unfoldable pub ports_behind : PortWires → List Statement → PortWires
ports_behind earlier [] = earlier
ports_behind earlier (s ∷ ss) = ports_behind (with_statement earlier s) ss

abbrev pub ports_of : List Statement → PortWires
ports_of ss = ports_behind [] ss

-- an instance can be joined to it
abbrev pub is_port : PortWire → Bool
is_port w = w.is_input || w.is_output

abbrev pub is_some_port : Option PortWire → Bool
is_some_port None = false
is_some_port (Some w) = is_port w

abbrev pub port_width : Option PortWire → ℕ
port_width None = 0
port_width (Some w) = w.width
