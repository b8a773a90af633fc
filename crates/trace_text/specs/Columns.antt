-- Where the values of nodes stand among the words of a sample.
use Rattle.std.specs.Prelude.{◌≡◌, ℕ, ◌+◌, ◌≤◌, List, [], ◌∷◌, ◌++◌, length, take, drop, Some, slice_get}
use Rattle.sim_base.specs.Shape.{words_of_width, words_of_widths}
use Rattle.circuit.specs.Slots.{item_widths}
use Rattle.circuit.specs.declared.netlist.Circuit.{Circuit}
use Rattle.circuit.specs.declared.netlist.Net.{Net}
use Rattle.circuit.specs.declared.memory.Mem.{Mem}
use Rattle.circuit.specs.declared.item.Item.{Item}
use Rattle.circuit.specs.declared.item.ItemKind.{ItemKind}
use Rattle.circuit.specs.declared.item.ItemKind.TheVariants as item
use Rattle.spool_format.specs.Records.{slot_number}
use Rattle.trace_text.specs.Text.{kind_width, value_text}
use Rattle.trace_text.specs.declared.printer.Column.{Column}

-- a node has a column, a memory none; so many words stand before the item's
abbrev pub columns_of : List Net → ℕ → ItemKind → List Column
columns_of nets before (item.Node net lsb_at input output) = record { width = kind_width nets (item.Node net lsb_at input output); place = before } ∷ []
columns_of nets before (item.Memory m) = []

-- the columns of items, before the first of which so many words stand
unfoldable pub columns_from : List Net → List Mem → ℕ → List Item → List Column
columns_from nets mems before [] = []
columns_from nets mems before (i ∷ is) = columns_of nets before i.kind ++ columns_from nets mems (before + words_of_widths (item_widths nets mems i.kind)) is

abbrev pub columns : Circuit → List Column
columns c = columns_from c.nets c.mems 0 c.items

-- the words of a column, and what they stand for
abbrev pub column_words : List ℕ → Column → List ℕ
column_words words x = take (words_of_width x.width) (drop x.place words)

abbrev pub column_text : List ℕ → Column → List ℕ
column_text words x = value_text x.width (slot_number (column_words words x))

-- the words of each column are there
abbrev pub AreWithin : List Column → List ℕ → Type 0
AreWithin xs words = (n : ℕ) (x : Column) → slice_get xs n ≡ Some x → x.place + words_of_width x.width ≤ length words
