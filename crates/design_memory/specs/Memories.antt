-- What a memory becomes.
use Rattle.std.specs.Prelude.{ℕ, ◌+◌, ◌*◌, List, [], ◌∷◌, length, map, Option, Some, None, flat_map, if◌then◌else◌}
use Rattle.std.specs.List.{range_with_len}
use Rattle.sim_base.specs.BitValue.{zeros}
use Rattle.circuit.specs.Signal.{sig_part}
use Rattle.circuit.specs.declared.item.Item.{Item}
use Rattle.circuit.specs.declared.item.ItemKind.TheVariants as item
use Rattle.circuit.specs.declared.memory.Mem.{Mem}
use Rattle.circuit.specs.declared.memory.ReadPort.{ReadPort}
use Rattle.circuit.specs.declared.memory.WritePort.{WritePort}
use Rattle.circuit.specs.declared.netlist.Drive.{Drive}
use Rattle.circuit.specs.declared.netlist.Piece.{Piece}
use Rattle.circuit.specs.declared.netlist.Piece.TheVariants as piece
use Rattle.rtlil_tree.specs.declared.module.Attribute.{Attribute}
use Rattle.rtlil_tree.specs.declared.module.Cell.{Cell}
use Rattle.rtlil_tree.specs.declared.module.Connection.{Connection}
use Rattle.rtlil_tree.specs.declared.module.Setting.{Setting}
use Rattle.rtlil_signals.specs.Drives.{by_at, driven_from}
use Rattle.rtlil_signals.specs.Signals.{Scope, whole}
use Rattle.rtlil_signals.specs.Spans.{value_part}
use Rattle.rtlil_signals.specs.declared.drives.Source.TheVariants as source
use Rattle.design_parts.specs.Parts.{Made, Walk, give, guard, none_made}
use Rattle.design_wires.specs.Texts.{source_text}
use Rattle.design_wires.specs.Places.{InstancePlace, ShownPlace}
use Rattle.design_wires.specs.Wires.{is_public, shown_name}
use Rattle.design_cells.specs.Joined.{Joined, joined_at, joined_in, pieces_in}
use Rattle.design_memory.specs.Names.{port_name}
use Rattle.design_memory.specs.Rules.{memory_checks}
use Rattle.design_memory.specs.Settings.{is_set, item_identifier, shape_of, values_of}
use Rattle.design_memory.specs.declared.names.Port.{Port}
use Rattle.design_memory.specs.declared.names.Port.TheVariants as port
use Rattle.design_memory.specs.declared.settings.Shape.{Shape}
use Rattle.design_memory.specs.declared.settings.Values.{Values}

-- ---- ports, packed with port 0 lowest

-- bits of the signal at a port; where nothing is joined, zeros
abbrev pub part_or_zeros : Option Joined → ℕ → ℕ → List Piece
part_or_zeros None at width = whole (piece.Const (zeros width))
part_or_zeros (Some j) at width = sig_part at width (pieces_in (Some j))

abbrev pub part_at : List Joined → Port → ℕ → ℕ → List Piece
part_at js p at width = part_or_zeros (joined_at js (port_name p)) at width

unfoldable pub read_port : Shape → Values → List Joined → ℕ → ReadPort
read_port s v js i = record {
  clocked = is_set v.clocked_reads i;
  rising = is_set v.rising_reads i;
  clk = part_at js port.ReadClock i 1;
  en = part_at js port.ReadEnable i 1;
  addr = part_at js port.ReadAddress (i * s.address_width) s.address_width;
  see = map (λ j. is_set v.sees (i * s.writes + j)) (range_with_len 0 s.writes);
  init = value_part v.starts (i * s.width) s.width;
}

unfoldable pub write_port : Shape → Values → List Joined → ℕ → WritePort
write_port s v js j = record {
  rising = is_set v.rising_writes j;
  clk = part_at js port.WriteClock j 1;
  en = part_at js port.WriteEnable (j * s.width) s.width;
  addr = part_at js port.WriteAddress (j * s.address_width) s.address_width;
  word = part_at js port.WriteData (j * s.width) s.width;
}

abbrev pub memory_of : Shape → Values → List Joined → Mem
memory_of s v js = record {
  width = s.width;
  size = s.size;
  offset = s.offset;
  init = value_part v.init 0 (s.size * s.width);
  reads = map (read_port s v js) (range_with_len 0 s.reads);
  writes = map (write_port s v js) (range_with_len 0 s.writes);
}

-- ---- drives

-- a read port drives its bits of what they are joined to
unfoldable pub read_drives : ℕ → Shape → List Joined → ℕ → List Drive
read_drives mem s js i = driven_from (by_at (source.Read mem i)) 0 (sig_part (i * s.width) s.width (pieces_in (joined_at js (port_name port.ReadData))))

-- ---- the item

abbrev pub memory_item : ShownPlace → ℕ → List ℕ → List Attribute → Item
memory_item shown mem name attributes = record {
  name = shown_name shown name;
  scope = shown.scope;
  kind = item.Memory mem;
  src = source_text attributes;
  first_slot = 0;
}

abbrev pub memory_items : Option ShownPlace → ℕ → Option (List ℕ) → List Attribute → List Item
memory_items None mem name attributes = []
memory_items (Some shown) mem None attributes = []
memory_items (Some shown) mem (Some name) attributes = if is_public name then memory_item shown mem name attributes ∷ [] else []

-- ---- a memory

abbrev pub drives_of : ℕ → Shape → List Joined → ℕ → List Drive
drives_of mem s js count = flat_map (read_drives mem s js) (range_with_len 0 count)

abbrev pub memory_made : Option ShownPlace → Option (List ℕ) → List Attribute → Shape → Values → List Joined → Made → Made
memory_made shown identifier attributes s v js m = record none_made {
  mems = memory_of s v js ∷ [];
  drives = drives_of (length m.mems) s js s.reads;
  items = memory_items shown (length m.mems) identifier attributes;
}

unfoldable pub taken : InstancePlace → List ℕ → List Attribute → List Setting → List Connection → List Joined → Walk
taken here name attributes ss cs js = guard (memory_checks here name ss cs js) (give (memory_made here.shown (item_identifier ss) attributes (shape_of ss) (values_of ss) js))

-- a memory as it is written in an instance
abbrev pub memory : InstancePlace → Scope → Cell → Walk
memory here scope c = taken here c.name c.attributes c.settings c.connections (joined_in scope c.connections)
