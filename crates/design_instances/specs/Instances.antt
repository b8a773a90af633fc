-- The checks of a cell that is an instance of a module.
use Rattle.std.specs.Prelude.{ℕ, ◌==◌, List, [], ◌∷◌, length, Bool, false, not, ◌&&◌, ◌||◌, nat_le, Option, Some, None}
use Rattle.std.specs.List.{list_all}
use Rattle.circuit.specs.Signal.{sig_width}
use Rattle.circuit.specs.Valid.{widest}
use Rattle.circuit.specs.declared.fault.DesignKind.TheVariants as kind
use Rattle.circuit.specs.declared.netlist.Piece.{Piece}
use Rattle.rtlil_tree.specs.declared.module.Cell.{Cell as Written}
use Rattle.rtlil_signals.specs.Signals.{Scope}
use Rattle.design_parts.specs.Parts.{Check, Made, at, check}
use Rattle.design_cells.specs.Joined.{Joined, joined_in}
use Rattle.design_cells.specs.Rules.{has_room}
use Rattle.design_instances.specs.declared.port.PortWire.{PortWire}
use Rattle.design_instances.specs.Ports.{PortWires, is_port, is_some_port, port_width, wire_named}

-- each port is an input or an output of the module, and each wire at it is there
abbrev pub are_known : PortWires → List Joined → Bool
are_known ports js = list_all (λ j. is_some_port (wire_named ports j.port) && j.is_named) js

-- each slice is inside, and there are so many bits
abbrev pub has_width : ℕ → Option (List Piece) → Bool
has_width width None = false
has_width width (Some ps) = sig_width ps == width

-- each port is joined to as many bits as it has
abbrev pub are_fitting : PortWires → List Joined → Bool
are_fitting ports js = list_all (λ j. has_width (port_width (wire_named ports j.port)) j.pieces) js

-- no port of the module is too wide, joined or not
abbrev pub is_narrow : PortWire → Bool
is_narrow w = not (is_port w) || nat_le w.width widest

abbrev pub are_narrow : PortWires → Bool
are_narrow ports = list_all (λ p. is_narrow p.1) ports

unfoldable pub joined_checks : List ℕ → PortWires → Written → List Joined → Made → List Check
joined_checks owner ports c js m =
    check (length c.settings == 0) (at kind.BadParameter owner c.name)
    ∷ check (are_known ports js) (at kind.UnknownName owner c.name)
    ∷ check (are_fitting ports js) (at kind.Width owner c.name)
    ∷ check (are_narrow ports) (at kind.TooWide owner c.name)
    ∷ check (has_room m) (at kind.TooLarge owner c.name)
    ∷ []

-- a cell among the wires around it, and the wires of its module
abbrev pub instance_checks : List ℕ → Scope → PortWires → Written → Made → List Check
instance_checks owner around ports c m = joined_checks owner ports c (joined_in around c.connections) m
