-- How a cell that drives nothing is read: as a diagnostic, or as nothing.
use Rattle.std.specs.Prelude.{ℕ, ◌-◌, ◌^◌, ◌==◌, List, [], ◌∷◌, ◌++◌, min, Bool, true, false, ◌&&◌, Option, Some, None, option_and_then, bytes_eq, find, codes, if◌then◌else◌}
use Rattle.sim_base.specs.BitValue.{BitValue, zeros}
use Rattle.circuit.specs.declared.diagnostic.DiagKind.{DiagKind}
use Rattle.circuit.specs.declared.diagnostic.DiagKind.TheVariants as diag
use Rattle.rtlil_tree.specs.declared.module.Setting.{Setting}
use Rattle.rtlil_signals.specs.Values.{const_value}
use Rattle.design_wires.specs.Texts.{const_text}
use Rattle.design_wires.specs.Places.{InstancePlace}
use Rattle.design_diagnostics.specs.Names.{parameter_name}
use Rattle.design_diagnostics.specs.declared.names.Parameter.{Parameter}
use Rattle.design_diagnostics.specs.declared.names.Parameter.TheVariants as parameter
use Rattle.design_diagnostics.specs.declared.names.SilentType.{SilentType}
use Rattle.design_diagnostics.specs.declared.names.SilentType.TheVariants as silent
use Rattle.design_diagnostics.specs.declared.reading.Reading.{Reading}

-- ---- what is given

abbrev pub setting_at : List Setting → Parameter → Option Setting
setting_at ss p = find (λ s. bytes_eq s.name (parameter_name p)) ss

-- the value of a parameter; 0 where it is not given
abbrev pub value_or_zero : Option Setting → BitValue
value_or_zero None = zeros 0
value_or_zero (Some s) = const_value s.value

abbrev pub value_at : List Setting → Parameter → BitValue
value_at ss p = value_or_zero (setting_at ss p)

-- the same as a number of 64 bits, the greatest one where it is above that
abbrev pub number_at : List Setting → Parameter → ℕ
number_at ss p = min (value_at ss p).number (2 ^ 64 - 1)

-- ---- readings

abbrev pub reading : DiagKind → Bool → Reading
reading kind has_trigger = record { kind = kind; has_trigger = has_trigger }

abbrev pub flavor_of : List ℕ → Option Reading
flavor_of text =
    if bytes_eq text (codes "assert") then Some (reading diag.Assert true) else
    if bytes_eq text (codes "assume") then Some (reading diag.Assume true) else None

-- a string and digits of the same bits are one text
abbrev pub flavor_in : Option Setting → Option Reading
flavor_in None = None
flavor_in (Some s) = option_and_then flavor_of (const_text s.value)

-- a cell without a reading has no effect
abbrev pub reading_of : SilentType → List Setting → Option Reading
reading_of silent.Assert ss = Some (reading diag.Assert false)
reading_of silent.Assume ss = Some (reading diag.Assume false)
reading_of silent.Check ss = flavor_in (setting_at ss parameter.Flavor)
reading_of silent.Cover ss = None
reading_of silent.Fair ss = None
reading_of silent.Live ss = None
reading_of silent.Print ss = None
reading_of silent.ScopeInfo ss = None

abbrev pub has_trigger : Option Reading → Bool
has_trigger None = false
has_trigger (Some r) = r.has_trigger

-- ---- texts

-- a `\` with which an identifier begins is left out
abbrev pub shown_byte : Bool → ℕ → List ℕ
shown_byte begins c = if begins && c == 92 then [] else c ∷ []

-- the identifiers of a path, which spaces part, each without the `\` with which it begins
unfoldable pub shown_path : Bool → List ℕ → List ℕ
shown_path begins [] = []
shown_path begins (c ∷ cs) = shown_byte begins c ++ shown_path (c == 32) cs

-- the text of the cell of a name
abbrev pub cell_text : InstancePlace → List ℕ → List ℕ
cell_text here name = shown_path true (here.prefix ++ name)
