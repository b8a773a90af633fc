-- The checks of a cell of the library.
use Rattle.std.specs.Prelude.{ℕ, List, [], ◌∷◌, ◌++◌, map, Bool, ◌&&◌, nat_lt, if◌then◌else◌}
use Rattle.std.specs.List.{list_all}
use Rattle.std.specs.Option.{is_some}
use Rattle.circuit.specs.Valid.{widest, widest_arithmetic}
use Rattle.circuit.specs.declared.fault.DesignKind.TheVariants as kind
use Rattle.cell_library.specs.Checks as library
use Rattle.cell_library.specs.Checks.{port_named}
use Rattle.cell_library.specs.Lines.{TypeLine}
use Rattle.cell_library.specs.declared.line.Port.{Port}
use Rattle.cell_library.specs.declared.written.Setting.{Setting}
use Rattle.design_parts.specs.Parts.{Check, Made, at, check, part_count}
use Rattle.design_cells.specs.Joined.{Joined, connections_of}

-- the most cells, registers, memories, diagnostics and instances together
abbrev pub most_parts : ℕ
most_parts = 1000000

abbrev pub has_room : Made → Bool
has_room m = nat_lt (part_count m) most_parts

-- each port is one of the type, and each wire at it is there
abbrev pub are_known : List Port → List Joined → Bool
are_known ports js = list_all (λ j. is_some (port_named ports j.port) && j.is_named) js

-- each slice is inside
abbrev pub are_inside : List Joined → Bool
are_inside js = list_all (λ j. is_some j.pieces) js

abbrev pub narrow_checks : TypeLine → List Setting → List library.Check
narrow_checks l settings = if l.arithmetic then library.limit_checks settings widest_arithmetic kind.ArithTooWide l.ports else []

-- of a cell whose type has this line: its parameters; the ports and the wires at them; slices and widths; the limits of all
-- ports of the type, joined or not; whether there is room for one more
unfoldable pub kind_checks : TypeLine → List Setting → List Joined → Bool → List library.Check
kind_checks l settings js room =
    library.parameter_checks settings l.parameters
    ++ (library.slice_checks l.gives settings
    ++ (library.check (are_known l.ports js) kind.UnknownName ∷ []
    ++ (library.check (are_inside js) kind.Width ∷ []
    ++ (library.width_checks settings l.ports (connections_of js)
    ++ (library.limit_checks settings widest kind.TooWide l.ports
    ++ (narrow_checks l settings
    ++ library.check room kind.TooLarge ∷ []))))))

-- checks of an item in a module
abbrev pub located : List ℕ → List ℕ → List library.Check → List Check
located owner item cs = map (λ c. check c.holds (at c.kind owner item)) cs
