-- The checks of a memory.
use Rattle.std.specs.Prelude.{ℕ, ◌+◌, ◌*◌, ◌^◌, ◌==◌, List, [], ◌∷◌, Bool, true, false, not, ◌&&◌, ◌||◌, nat_le, nat_lt, Option, Some, None, bytes_eq, sum_by}
use Rattle.std.specs.List.{list_all, range_with_len}
use Rattle.std.specs.Option.{is_some}
use Rattle.sim_base.specs.BitValue.{BitValue}
use Rattle.circuit.specs.Signal.{sig_width}
use Rattle.circuit.specs.Valid.{widest}
use Rattle.circuit.specs.declared.fault.DesignKind.TheVariants as kind
use Rattle.circuit.specs.declared.netlist.Piece.{Piece}
use Rattle.circuit.specs.declared.netlist.Piece.TheVariants as piece
use Rattle.rtlil_tree.specs.declared.module.Connection.{Connection}
use Rattle.rtlil_tree.specs.declared.module.Setting.{Setting}
use Rattle.rtlil_tree.specs.declared.sig.Sig.{Sig}
use Rattle.rtlil_signals.specs.Signals.{is_named, sig_pieces}
use Rattle.design_parts.specs.Parts.{Check, Made, at, check}
use Rattle.design_wires.specs.Connects.{or_none}
use Rattle.design_wires.specs.Places.{InstancePlace, ShownPlace}
use Rattle.design_wires.specs.Wires.{name_fits}
use Rattle.design_cells.specs.Joined.{Joined}
use Rattle.design_cells.specs.Rules as cells
use Rattle.design_memory.specs.Names.{needed, port_name, port_named, port_width, ports}
use Rattle.design_memory.specs.Settings.{item_identifier, is_set, number_at, setting_at, shape_of, values_of}
use Rattle.design_memory.specs.declared.names.Parameter.TheVariants as parameter
use Rattle.design_memory.specs.declared.names.Port.{Port}
use Rattle.design_memory.specs.declared.names.Port.TheVariants as port
use Rattle.design_memory.specs.declared.settings.Shape.{Shape}

-- ---- limits

abbrev pub most_rows : ℕ
most_rows = 67108864

abbrev pub most_memory_bits : ℕ
most_memory_bits = 67108864

-- ---- parameters

abbrev pub are_given : List Setting → Bool
are_given ss = list_all (λ p. is_some (setting_at ss p)) needed

-- widths and the offset are below 2^31
abbrev pub sizes_fit : Shape → Bool
sizes_fit s = nat_lt s.offset (2 ^ 31) && (nat_lt s.address_width (2 ^ 31) && nat_lt s.width (2 ^ 31))

-- so many bits of a value are 1
abbrev pub are_set : BitValue → ℕ → Bool
are_set v count = list_all (is_set v) (range_with_len 0 count)

-- no port goes on in another one
abbrev pub are_single : List Setting → Bool
are_single ss = number_at ss parameter.ReadWideContinuation == 0 && number_at ss parameter.WriteWideContinuation == 0

abbrev pub is_zero_piece : Piece → Bool
is_zero_piece (piece.Const v) = v.number == 0
is_zero_piece (piece.Part net at width) = false

-- a signal that names no wire and has no bit 1
abbrev pub is_zero : Sig → Bool
is_zero s = is_named [] s && list_all is_zero_piece (or_none (sig_pieces [] s))

abbrev pub is_reset : List ℕ → Bool
is_reset name = bytes_eq name (port_name port.ReadArst) || bytes_eq name (port_name port.ReadSrst)

-- a read port is not reset
abbrev pub stays_zero : Connection → Bool
stays_zero c = not (is_reset c.port) || is_zero c.sig

unfoldable pub parameters_fit : List Setting → List Connection → Bool
parameters_fit ss cs =
    are_given ss
    && (sizes_fit (shape_of ss)
    && (are_set (values_of ss).clocked_writes (shape_of ss).writes
    && (are_single ss && list_all stays_zero cs)))

-- ---- ports

-- each port is one of a memory, and each wire at it is there
unfoldable pub are_known : List Joined → Bool
are_known js = list_all (λ j. is_some (port_named j.port) && j.is_named) js

abbrev pub fits : Shape → Option Port → ℕ → Bool
fits s None width = true
fits s (Some p) width = port_width s p == width

abbrev pub is_joined : Shape → Joined → Bool
is_joined s j = is_some j.pieces && fits s (port_named j.port) (sig_width (or_none j.pieces))

-- each slice is inside, and each port is joined to as many bits as it has
unfoldable pub are_joined : Shape → List Joined → Bool
are_joined s js = list_all (is_joined s) js

abbrev pub within : Shape → List Port → Bool
within s ps = list_all (λ p. nat_le (port_width s p) widest) ps

-- each port is within the limit, joined or not, and so is a row
unfoldable pub are_narrow : Shape → Bool
are_narrow s = nat_le s.width widest && within s ports

-- ---- room

abbrev pub identifier_fits : Option ShownPlace → Option (List ℕ) → Bool
identifier_fits shown None = true
identifier_fits shown (Some name) = name_fits shown name

unfoldable pub has_room : Option ShownPlace → Option (List ℕ) → Shape → Made → Bool
has_room shown name s m =
    cells.has_room m
    && (nat_le (sum_by (λ x. x.size) m.mems + s.size) most_rows
    && (nat_le (sum_by (λ x. x.size * x.width) m.mems + s.size * s.width) most_memory_bits
    && identifier_fits shown name))

-- ---- a memory

unfoldable pub memory_checks : InstancePlace → List ℕ → List Setting → List Connection → List Joined → Made → List Check
memory_checks here name ss cs js m =
    check (parameters_fit ss cs) (at kind.BadParameter here.owner name)
    ∷ check (are_known js) (at kind.UnknownName here.owner name)
    ∷ check (are_joined (shape_of ss) js) (at kind.Width here.owner name)
    ∷ check (are_narrow (shape_of ss)) (at kind.TooWide here.owner name)
    ∷ check (has_room here.shown (item_identifier ss) (shape_of ss) m) (at kind.TooLarge here.owner name)
    ∷ []
