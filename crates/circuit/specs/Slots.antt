-- The slots of a recording of a circuit.
use Rattle.std.specs.Prelude.{ℕ, List, [], ◌∷◌, ◌++◌, map, replicate, Option, Some, None, slice_get}
use Rattle.std.specs.List.{flat_map}
use Rattle.circuit.specs.declared.netlist.Circuit.{Circuit}
use Rattle.circuit.specs.declared.netlist.Net.{Net}
use Rattle.circuit.specs.declared.memory.Mem.{Mem}
use Rattle.circuit.specs.declared.item.ItemKind.{ItemKind}
use Rattle.circuit.specs.declared.item.ItemKind.TheVariants as item

abbrev pub net_width : Option Net → ℕ
net_width None = 0
net_width (Some x) = x.width

abbrev pub row_widths : Option Mem → List ℕ
row_widths None = []
row_widths (Some m) = replicate m.size m.width

-- the slot of a node has the width of its net, each slot of a memory that of a row
abbrev pub item_widths : List Net → List Mem → ItemKind → List ℕ
item_widths nets mems (item.Node net lsb_at input output) = net_width (slice_get nets net) ∷ []
item_widths nets mems (item.Memory m) = row_widths (slice_get mems m)

-- the widths of all slots: those of the items come first, and then one bit for each diagnostic
abbrev pub slot_widths : Circuit → List ℕ
slot_widths c = flat_map (λ i. item_widths c.nets c.mems i.kind) c.items ++ map (λ _. 1) c.diags
