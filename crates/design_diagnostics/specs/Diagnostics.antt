-- What a cell that drives nothing becomes.
use Rattle.std.specs.Prelude.{ℕ, ◌==◌, List, [], ◌∷◌, map, Bool, not, ◌&&◌, Option, Some, None, if◌then◌else◌}
use Rattle.std.specs.List.{range_with_len}
use Rattle.sim_base.specs.BitValue.{BitValue}
use Rattle.circuit.specs.declared.diagnostic.Diag.{Diag}
use Rattle.circuit.specs.declared.diagnostic.Trigger.{Trigger}
use Rattle.circuit.specs.declared.netlist.Piece.{Piece}
use Rattle.rtlil_tree.specs.declared.module.Attribute.{Attribute}
use Rattle.rtlil_tree.specs.declared.module.Cell.{Cell}
use Rattle.rtlil_tree.specs.declared.module.Setting.{Setting}
use Rattle.rtlil_signals.specs.Signals.{Scope}
use Rattle.design_parts.specs.Parts.{Made, Walk, give, guard, none_made}
use Rattle.design_wires.specs.Texts.{source_text}
use Rattle.design_wires.specs.Places.{InstancePlace}
use Rattle.design_cells.specs.Cells.{signal_or_zeros}
use Rattle.design_cells.specs.Joined.{Joined, joined_at, joined_in}
use Rattle.design_memory.specs.Settings.{is_set}
use Rattle.design_diagnostics.specs.Names.{port_name}
use Rattle.design_diagnostics.specs.Readings.{cell_text, number_at, reading_of, value_at}
use Rattle.design_diagnostics.specs.Rules.{silent_checks}
use Rattle.design_diagnostics.specs.declared.names.Parameter.TheVariants as parameter
use Rattle.design_diagnostics.specs.declared.names.Port.{Port}
use Rattle.design_diagnostics.specs.declared.names.Port.TheVariants as port
use Rattle.design_diagnostics.specs.declared.names.SilentType.{SilentType}
use Rattle.design_diagnostics.specs.declared.reading.Reading.{Reading}

abbrev pub signal_at : List Joined → Port → ℕ → List Piece
signal_at js p width = signal_or_zeros (joined_at js (port_name p)) width

-- for each bit whether its edge is the rising one
abbrev pub rising_of : BitValue → ℕ → List Bool
rising_of polarity width = map (is_set polarity) (range_with_len 0 width)

abbrev pub trigger_of : BitValue → ℕ → List Joined → Trigger
trigger_of polarity width js = record { on = signal_at js port.Trigger width; rising = rising_of polarity width }

-- it triggers where that is enabled
abbrev pub trigger_if : Reading → List Setting → List Joined → Option Trigger
trigger_if r ss js =
    if r.has_trigger && not (number_at ss parameter.TriggerEnable == 0)
    then Some (trigger_of (value_at ss parameter.TriggerPolarity) (number_at ss parameter.TriggerWidth) js) else None

abbrev pub diagnostic_of : Reading → List ℕ → List Attribute → List Setting → List Joined → Diag
diagnostic_of r text attributes ss js = record {
  kind = r.kind;
  text = text;
  src = source_text attributes;
  a = signal_at js port.Value 1;
  en = signal_at js port.Enable 1;
  trigger = trigger_if r ss js;
}

abbrev pub silent_made : Option Reading → List ℕ → List Attribute → List Setting → List Joined → Made
silent_made None text attributes ss js = none_made
silent_made (Some r) text attributes ss js = record none_made { diags = diagnostic_of r text attributes ss js ∷ [] }

unfoldable pub taken : InstancePlace → List ℕ → List Attribute → Option Reading → List Setting → List Joined → Walk
taken here name attributes r ss js = guard (silent_checks here name r ss js) (give (λ m. silent_made r (cell_text here name) attributes ss js))

-- a cell of a type that drives nothing, as it is written in an instance
abbrev pub silent_cell : InstancePlace → Scope → SilentType → Cell → Walk
silent_cell here scope silent c = taken here c.name c.attributes (reading_of silent c.settings) c.settings (joined_in scope c.connections)
