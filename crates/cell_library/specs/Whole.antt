-- What the table as a whole keeps.
use Rattle.std.specs.Prelude.{◌≡◌, ℕ, List, [], ◌∷◌, Bool, true, false, not, ◌&&◌, bytes_eq, Option, Some, option_map, slice_get, if◌then◌else◌}
use Rattle.std.specs.List.{list_all, list_any}
use Rattle.circuit.specs.declared.cell.Op.{Op}
use Rattle.circuit.specs.declared.register.RegKind.{RegKind}
use Rattle.cell_library.specs.declared.line.Gives.{Gives}
use Rattle.cell_library.specs.declared.line.Gives.TheVariants as gives
use Rattle.cell_library.specs.declared.line.Parameter.{Parameter}
use Rattle.cell_library.specs.declared.line.Port.{Port}
use Rattle.cell_library.specs.declared.line.PortName.{PortName}
use Rattle.cell_library.specs.declared.line.PortName.TheVariants as port
use Rattle.cell_library.specs.declared.line.Span.{Span}
use Rattle.cell_library.specs.declared.line.Span.TheVariants.{One, Of, Sum, Product, Scaled}
use Rattle.cell_library.specs.declared.line.Way.{Way}
use Rattle.cell_library.specs.declared.line.Way.TheVariants as way
use Rattle.cell_library.specs.Lines.{TypeLine}
use Rattle.cell_library.specs.Names.{parameter_name, port_name}
use Rattle.cell_library.specs.Table.{table}

-- no two lines have one name
abbrev pub names_differ : List TypeLine → Bool
names_differ [] = true
names_differ (l ∷ ls) = not (list_any (λ m. bytes_eq l.name m.name) ls) && names_differ ls

abbrev pub is_given : List Parameter → Parameter → Bool
is_given ps p = list_any (λ q. bytes_eq (parameter_name p) (parameter_name q)) ps

abbrev pub is_width_given : List Parameter → Span → Bool
is_width_given ps One = true
is_width_given ps (Of p) = is_given ps p
is_width_given ps (Sum p q) = is_given ps p && is_given ps q
is_width_given ps (Product p q) = is_given ps p && is_given ps q
is_width_given ps (Scaled p q) = is_given ps p && is_given ps q

-- each port's width is made of parameters that the type must be given
abbrev pub are_widths_given : TypeLine → Bool
are_widths_given l = list_all (λ p. is_width_given l.parameters p.span) l.ports

-- no two ports of a list have one name
abbrev pub port_names_differ : List Port → Bool
port_names_differ [] = true
port_names_differ (p ∷ ps) = not (list_any (λ q. bytes_eq (port_name p.name) (port_name q.name)) ps) && port_names_differ ps

abbrev pub is_driven : Way → Bool
is_driven way.In = false
is_driven way.Out = true

abbrev pub output_name : Gives → PortName
output_name (gives.Cell o) = port.Y
output_name (gives.Register k) = port.Q

abbrev pub is_output : Gives → Port → Bool
is_output g p = bytes_eq (port_name p.name) (port_name (output_name g))

-- a port is driven exactly where it is the output
abbrev pub has_its_way : Gives → Port → Bool
has_its_way g p = if is_output g p then is_driven p.way else not (is_driven p.way)

-- a type's ports have names that differ, and the only one that it drives is Y of a cell, Q of a register
abbrev pub has_one_output : TypeLine → Bool
has_one_output l = port_names_differ l.ports && (list_any (is_output l.gives) l.ports && list_all (has_its_way l.gives) l.ports)

abbrev pub gives_at : ℕ → Option Gives
gives_at n = option_map (λ l. l.gives) (slice_get table n)

-- some type becomes a cell of each sort, and some a register of each kind
pub record AreAllThere : Type 0 where
  pub cells : (o : Op) → (n : ℕ) × (gives_at n ≡ Some (gives.Cell o))
  pub registers : (k : RegKind) → (n : ℕ) × (gives_at n ≡ Some (gives.Register k))
