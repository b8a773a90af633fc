-- What a wire must be, and what it adds to a circuit: a net, and for an input also an input and its drive.
use Rattle.std.specs.Prelude.{ℕ, List, [], ◌∷◌, ◌++◌, length, Bool, true, false, ◌==◌, ◌&&◌, ◌||◌, not, nat_le, Option, Some, None, count_by, find, codes, if◌then◌else◌}
use Rattle.std.specs.List.{list_all}
use Rattle.sim_base.specs.BitValue.{BitValue, zeros}
use Rattle.flat_text.specs.declared.module.Wire.{Wire}
use Rattle.flat_text.specs.declared.module.Port.{Port}
use Rattle.flat_text.specs.declared.module.Port.TheVariants as port
use Rattle.flat_text.specs.declared.module.Attribute.{Attribute}
use Rattle.flat_text.specs.declared.module.Constant.{Constant}
use Rattle.flat_text.specs.declared.module.Constant.TheVariants as constant
use Rattle.circuit.specs.declared.netlist.Circuit.{Circuit}
use Rattle.circuit.specs.declared.netlist.Net.{Net}
use Rattle.circuit.specs.declared.netlist.By.TheVariants as by
use Rattle.flat_design.specs.Names.{same_name, has_backslash}

abbrev pub is_input : Port → Bool
is_input port.Internal = false
is_input port.Input = true
is_input port.Output = false

abbrev pub is_output : Port → Bool
is_output port.Internal = false
is_output port.Input = false
is_output port.Output = true

-- a width of 1 to 64 bits
abbrev pub is_word_width : ℕ → Bool
is_word_width width = nat_le 1 width && nat_le width 64

abbrev pub is_init : Attribute → Bool
is_init a = same_name a.name (codes "\\init")

abbrev pub is_digits_of : ℕ → Constant → Bool
is_digits_of width (constant.Number n) = false
is_digits_of width (constant.Digits v) = v.width == width
is_digits_of width (constant.Text t) = false

-- a wire has 1 to 64 bits, an input wire a name of the design, and at most one `\init`, which has the wire's width
unfoldable pub is_wire : Wire → Bool
is_wire w =
    is_word_width w.width && ((not (is_input w.port) || has_backslash w.name)
    && (nat_le (count_by is_init w.attributes) 1 && list_all (λ a. not (is_init a) || is_digits_of w.width a.value) w.attributes))

abbrev pub digits_or_zeros : ℕ → Constant → BitValue
digits_or_zeros width (constant.Number n) = zeros width
digits_or_zeros width (constant.Digits v) = v
digits_or_zeros width (constant.Text t) = zeros width

abbrev pub start_from : ℕ → Option Attribute → BitValue
start_from width None = zeros width
start_from width (Some a) = digits_or_zeros width a.value

-- the value that a register begins with whose output the wire is: its `\init`, or else 0
unfoldable pub start_of : Wire → BitValue
start_of w = start_from w.width (find is_init w.attributes)

abbrev pub net_of : Wire → Net
net_of w = record { path = w.name; width = w.width }

abbrev pub with_net : Circuit → Wire → Circuit
with_net c w = record c { nets = c.nets ++ net_of w ∷ [] }

-- an input on the net
abbrev pub with_input : Circuit → ℕ → ℕ → Circuit
with_input c net width = record c {
  inputs = c.inputs ++ net ∷ [];
  drives = c.drives ++ record { net = net; at = 0; width = width; by = by.Input (length c.inputs) 0 } ∷ [];
}

unfoldable pub with_wire : Circuit → Wire → Circuit
with_wire c w = if is_input w.port then with_input (with_net c w) (length c.nets) w.width else with_net c w

-- the wires in their order, each added to what stands before it
unfoldable pub with_wires : Circuit → List Wire → Circuit
with_wires c [] = c
with_wires c (w ∷ ws) = with_wires (with_wire c w) ws
