-- What joins an instance to the wires around it.
use Rattle.std.specs.Prelude.{ℕ, List, [], ◌∷◌, ◌++◌, Bool, true, false, ◌&&◌, not, nat_eq, Option, Some, None, flat_map, if◌then◌else◌}
use Rattle.std.specs.Option.{is_some}
use Rattle.sim_base.specs.BitValue.{zeros}
use Rattle.circuit.specs.declared.netlist.By.TheVariants as by
use Rattle.circuit.specs.declared.netlist.Drive.{Drive}
use Rattle.circuit.specs.declared.netlist.Piece.{Piece}
use Rattle.rtlil_signals.specs.Drives.{connected}
use Rattle.rtlil_signals.specs.Signals.{Scope, net_named, net_pieces}
use Rattle.rtlil_signals.specs.declared.scope.NamedNet.{NamedNet}
use Rattle.rtlil_tree.specs.declared.module.Connection.{Connection}
use Rattle.design_cells.specs.Joined.{Joined, joined_at, joined_in}
use Rattle.design_instances.specs.Ports.{PortWires, wire_named}
use Rattle.design_instances.specs.declared.port.PortWire.{PortWire}

abbrev pub is_input : Option PortWire → Bool
is_input None = false
is_input (Some w) = w.is_input

-- an input's net is driven by the signal that it is joined to, and such a signal by the net of an output
abbrev pub tied : Bool → List Piece → List Piece → List Drive
tied true net sig = connected net sig
tied false net sig = connected sig net

-- of a port that is not there, or a slice that is outside, nothing comes
abbrev pub tied_to : Bool → Option NamedNet → Option (List Piece) → List Drive
tied_to input None sig = []
tied_to input (Some n) None = []
tied_to input (Some n) (Some sig) = tied input (net_pieces (Some n)) sig

abbrev pub port_drives : Scope → PortWires → Joined → List Drive
port_drives inside ports j = tied_to (is_input (wire_named ports j.port)) (net_named inside j.port) j.pieces

-- the drive of a net by zeros, where it has a bit
abbrev pub zero_drives : Option NamedNet → List Drive
zero_drives None = []
zero_drives (Some n) = if nat_eq n.width 0 then [] else (record { net = n.net; at = 0; width = n.width; by = by.Const (zeros n.width) }) ∷ []

-- an input that nothing is joined to is driven by zeros
abbrev pub missing_drives : Scope → List Joined → (List ℕ × PortWire) → List Drive
missing_drives inside js p = if p.1.is_input && not (is_some (joined_at js p.0)) then zero_drives (net_named inside p.0) else []

-- port by port as they are written, then the inputs that are not joined, in the order of their nets
unfoldable pub joined_drives : Scope → PortWires → List Joined → List Drive
joined_drives inside ports js = flat_map (port_drives inside ports) js ++ flat_map (missing_drives inside js) ports

-- the wires inside and around an instance, and its connections
abbrev pub join_drives : Scope → Scope → PortWires → List Connection → List Drive
join_drives inside around ports cs = joined_drives inside ports (joined_in around cs)
