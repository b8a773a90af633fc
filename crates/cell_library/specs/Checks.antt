-- The checks of a cell, in their order.
use Rattle.std.specs.Prelude.{◌≡◌, ℕ, List, [], ◌∷◌, ◌++◌, Bool, true, ◌==◌, Option, Some, None, Result, Ok, Err, find, map, bytes_eq, nat_le, if◌then◌else◌, ◌+◌, false}
use Rattle.std.specs.Option.{is_some}
use Rattle.circuit.specs.declared.fault.DesignKind.{DesignKind}
use Rattle.circuit.specs.declared.fault.DesignKind.TheVariants as kind
use Rattle.circuit.specs.Valid.{widest, widest_arithmetic}
use Rattle.cell_library.specs.declared.line.Gives.{Gives}
use Rattle.cell_library.specs.declared.line.Gives.TheVariants as gives
use Rattle.circuit.specs.declared.cell.Op.TheVariants as op
use Rattle.cell_library.specs.declared.line.Parameter.{Parameter}
use Rattle.cell_library.specs.declared.line.Parameter.TheVariants as p
use Rattle.cell_library.specs.declared.line.Port.{Port}
use Rattle.cell_library.specs.declared.written.Connection.{Connection}
use Rattle.cell_library.specs.declared.written.Setting.{Setting}
use Rattle.cell_library.specs.Lines.{TypeLine}
use Rattle.cell_library.specs.Names.{port_name}
use Rattle.cell_library.specs.Table.{line_of}
use Rattle.cell_library.specs.Values.{given, in_range, number, span_width}

-- whether a rule is kept, and what is wrong where it is not: the place is the cell's
pub record Check : Type 0 where
  pub holds : Bool
  pub kind : DesignKind

abbrev pub check : Bool → DesignKind → Check
check holds k = record { holds = holds; kind = k }

abbrev pub first_fault : List Check → Option DesignKind
first_fault [] = None
first_fault (c ∷ cs) = if c.holds then first_fault cs else Some c.kind

-- the answer of a function that only checks
abbrev pub Passes : {X : Type 0} → List Check → Result X DesignKind → Type 0
Passes cs (Ok _) = first_fault cs ≡ None
Passes cs (Err k) = first_fault cs ≡ Some k

-- ---- parameters

abbrev pub parameter_check : List Setting → Parameter → Check
parameter_check settings p = check (in_range p (given settings p)) kind.BadParameter

abbrev pub parameter_checks : List Setting → List Parameter → List Check
parameter_checks settings ps = map (parameter_check settings) ps

-- a slice stays inside its operand
abbrev pub slice_checks : Gives → List Setting → List Check
slice_checks (gives.Cell op.Slice) settings = check (nat_le (number settings p.Offset + number settings p.YWidth) (number settings p.AWidth)) kind.BadParameter ∷ []
slice_checks _ settings = []

-- ---- ports

abbrev pub port_named : List Port → List ℕ → Option Port
port_named ports name = find (λ p. bytes_eq (port_name p.name) name) ports

abbrev pub port_check : List Port → Connection → Check
port_check ports c = check (is_some (port_named ports c.port)) kind.UnknownName

abbrev pub port_checks : List Port → List Connection → List Check
port_checks ports cs = map (port_check ports) cs

abbrev pub fits : List Setting → Option Port → ℕ → Bool
fits settings None width = true
fits settings (Some p) width = span_width settings p.span == width

abbrev pub width_check : List Setting → List Port → Connection → Check
width_check settings ports c = check (fits settings (port_named ports c.port) c.width) kind.Width

abbrev pub width_checks : List Setting → List Port → List Connection → List Check
width_checks settings ports cs = map (width_check settings ports) cs

-- the width of a port, if there is one
abbrev pub port_width : List Setting → Option Port → ℕ
port_width settings None = 0
port_width settings (Some p) = span_width settings p.span

-- ---- limits

abbrev pub within : List Setting → ℕ → Port → Bool
within settings most p = nat_le (span_width settings p.span) most

abbrev pub limit_check : List Setting → ℕ → DesignKind → Port → Check
limit_check settings most k p = check (within settings most p) k

abbrev pub limit_checks : List Setting → ℕ → DesignKind → List Port → List Check
limit_checks settings most k ports = map (limit_check settings most k) ports

-- ---- a cell

-- the checks of a cell whose type has this line: its parameters, the ports that are joined, their widths, and the limits of
-- all ports of the type, joined or not
unfoldable pub line_checks : TypeLine → List Setting → List Connection → List Check
line_checks l settings cs =
    parameter_checks settings l.parameters
    ++ (slice_checks l.gives settings
    ++ (port_checks l.ports cs
    ++ (width_checks settings l.ports cs
    ++ (limit_checks settings widest kind.TooWide l.ports
    ++ (if l.arithmetic then limit_checks settings widest_arithmetic kind.ArithTooWide l.ports else [])))))

-- the checks of a cell whose type has this line, if it has one
abbrev pub checks_by : Option TypeLine → List Setting → List Connection → List Check
checks_by None settings cs = check false kind.UnknownCell ∷ []
checks_by (Some l) settings cs = line_checks l settings cs

-- the checks of a cell, its type's first
abbrev pub cell_checks : List ℕ → List Setting → List Connection → List Check
cell_checks name settings cs = checks_by (line_of name) settings cs
