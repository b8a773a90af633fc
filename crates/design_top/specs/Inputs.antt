-- What drives the inputs of the top.
use Rattle.std.specs.Prelude.{◌==◌, List, [], ◌∷◌, length, Option, Some, None, if◌then◌else◌}
use Rattle.std.specs.Option.{is_some}
use Rattle.sim_base.specs.BitValue.{zeros}
use Rattle.circuit.specs.declared.netlist.By.{By}
use Rattle.circuit.specs.declared.netlist.By.TheVariants as by
use Rattle.circuit.specs.declared.netlist.Drive.{Drive}
use Rattle.rtlil_tree.specs.declared.module.Statement.{Statement}
use Rattle.rtlil_tree.specs.declared.module.Statement.TheVariants as statement
use Rattle.rtlil_tree.specs.declared.module.Wire.{Wire}
use Rattle.rtlil_signals.specs.Signals.{Scope, net_named}
use Rattle.rtlil_signals.specs.declared.scope.NamedNet.{NamedNet}
use Rattle.design_parts.specs.Parts.{Made, Walk, give, none_made, nothing, ◌>>◌}
use Rattle.design_wires.specs.Wires.{is_public}

-- what drives all bits of a net, where it has some
abbrev pub whole_driven : NamedNet → By → List Drive
whole_driven n by = if n.width == 0 then [] else (record { net = n.net; at = 0; width = n.width; by = by }) ∷ []

-- an input wire that begins with `\` is the next input, another one reads 0
abbrev pub input_made : NamedNet → Wire → Made → Made
input_made n w m =
    if is_public w.name
    then (record none_made { drives = whole_driven n (by.Input (length m.inputs) 0); inputs = n.net ∷ [] })
    else (record none_made { drives = whole_driven n (by.Const (zeros n.width)) })

abbrev pub net_input : Option NamedNet → Wire → Walk
net_input None w = nothing
net_input (Some n) w = if is_some w.options.input then give (input_made n w) else nothing

abbrev pub wire_input : Scope → Wire → Walk
wire_input scope w = net_input (net_named scope w.name) w

abbrev pub input_in : Scope → Statement → Walk
input_in scope (statement.Wire w) = wire_input scope w
input_in scope _ = nothing

-- the inputs among the statements of the top, whose wires have these nets
unfoldable pub inputs : Scope → List Statement → Walk
inputs scope [] = nothing
inputs scope (s ∷ ss) = input_in scope s >> inputs scope ss
