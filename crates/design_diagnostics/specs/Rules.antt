-- The checks of a cell that drives nothing.
use Rattle.std.specs.Prelude.{ℕ, ◌^◌, ◌==◌, List, [], ◌∷◌, length, Bool, true, not, ◌&&◌, ◌||◌, nat_le, nat_lt, Option, Some, None, bytes_eq, if◌then◌else◌}
use Rattle.std.specs.List.{list_all}
use Rattle.std.specs.Option.{is_some}
use Rattle.circuit.specs.Signal.{sig_width}
use Rattle.circuit.specs.Valid.{widest}
use Rattle.circuit.specs.declared.fault.DesignKind.TheVariants as kind
use Rattle.rtlil_tree.specs.declared.module.Setting.{Setting}
use Rattle.design_parts.specs.Parts.{Check, Made, at, check}
use Rattle.design_wires.specs.Connects.{or_none}
use Rattle.design_wires.specs.Places.{InstancePlace}
use Rattle.design_wires.specs.Wires.{longest_name}
use Rattle.design_cells.specs.Joined.{Joined}
use Rattle.design_cells.specs.Rules as cells
use Rattle.design_diagnostics.specs.Names.{port_name}
use Rattle.design_diagnostics.specs.Readings.{cell_text, has_trigger, number_at, setting_at}
use Rattle.design_diagnostics.specs.declared.names.Parameter.TheVariants as parameter
use Rattle.design_diagnostics.specs.declared.names.Port.TheVariants as port
use Rattle.design_diagnostics.specs.declared.reading.Reading.{Reading}

-- ---- parameters

abbrev pub are_given : List Setting → Bool
are_given ss = is_some (setting_at ss parameter.TriggerEnable) && (is_some (setting_at ss parameter.TriggerWidth) && is_some (setting_at ss parameter.TriggerPolarity))

-- only what triggers has parameters, and its width is below 2^31
abbrev pub parameters_fit : Option Reading → List Setting → Bool
parameters_fit r ss = not (has_trigger r) || (are_given ss && nat_lt (number_at ss parameter.TriggerWidth) (2 ^ 31))

-- ---- ports

-- how many bits a port of a diagnostic has; none where it is ignored
abbrev pub read_width : Reading → ℕ → List ℕ → Option ℕ
read_width r width name =
    if bytes_eq name (port_name port.Value) || bytes_eq name (port_name port.Enable) then Some 1 else
    if r.has_trigger && bytes_eq name (port_name port.Trigger) then Some width else None

abbrev pub port_width : Option Reading → ℕ → List ℕ → Option ℕ
port_width None width name = None
port_width (Some r) width name = read_width r width name

abbrev pub has_width : Option ℕ → ℕ → Bool
has_width None width = true
has_width (Some w) width = w == width

abbrev pub is_joined : Option Reading → ℕ → Joined → Bool
is_joined r width j = is_some j.pieces && has_width (port_width r width j.port) (sig_width (or_none j.pieces))

-- each wire is there
abbrev pub are_known : List Joined → Bool
are_known js = list_all (λ j. j.is_named) js

-- each slice is inside, and each port that is not ignored is joined to as many bits as it has
abbrev pub are_joined : Option Reading → ℕ → List Joined → Bool
are_joined r width js = list_all (is_joined r width) js

abbrev pub are_narrow : List Joined → Bool
are_narrow js = list_all (λ j. nat_le (sig_width (or_none j.pieces)) widest) js

-- the trigger is within the limit, joined or not
abbrev pub is_narrow_trigger : Option Reading → ℕ → Bool
is_narrow_trigger r width = not (has_trigger r) || nat_le width widest

-- ---- room

-- what has no effect takes no room
abbrev pub has_room : Option Reading → List ℕ → Made → Bool
has_room None text m = true
has_room (Some r) text m = cells.has_room m && nat_le (length text) longest_name

-- ---- a cell that drives nothing

unfoldable pub silent_checks : InstancePlace → List ℕ → Option Reading → List Setting → List Joined → Made → List Check
silent_checks here name r ss js m =
    check (parameters_fit r ss) (at kind.BadParameter here.owner name)
    ∷ check (are_known js) (at kind.UnknownName here.owner name)
    ∷ check (are_joined r (number_at ss parameter.TriggerWidth) js) (at kind.Width here.owner name)
    ∷ check (are_narrow js && is_narrow_trigger r (number_at ss parameter.TriggerWidth)) (at kind.TooWide here.owner name)
    ∷ check (has_room r (cell_text here name) m) (at kind.TooLarge here.owner name)
    ∷ []
