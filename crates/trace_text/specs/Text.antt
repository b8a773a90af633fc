-- The text of a trace: the nodes, a line for each sample, and how it ended. Every line ends with a line feed.
use Rattle.std.specs.Prelude.{ℕ, zero, suc, List, [], ◌∷◌, ◌++◌, length, Bool, true, false, nat_lt, codes, decimal, if◌then◌else◌, slice_get}
use Rattle.std.specs.List.{filter, flat_map}
use Rattle.sim_base.specs.BitValue.{hexadecimal_length}
use Rattle.sim_base.specs.Digits.{lowest_digits}
use Rattle.sim_base.specs.TimeText.{time_text}
use Rattle.circuit.specs.Rounds.{Run, run_length}
use Rattle.circuit.specs.Shown.{shown}
use Rattle.circuit.specs.Slots.{net_width, slot_widths}
use Rattle.circuit.specs.declared.netlist.Circuit.{Circuit}
use Rattle.circuit.specs.declared.netlist.Net.{Net}
use Rattle.circuit.specs.declared.item.Item.{Item}
use Rattle.circuit.specs.declared.item.ItemKind.{ItemKind}
use Rattle.circuit.specs.declared.item.ItemKind.TheVariants as item
use Rattle.spool_format.specs.Records.{slot_number, slot_words}
use Rattle.spool_format.specs.declared.sample.Sample.{Sample}

-- ---- what is printed

abbrev pub is_node : ItemKind → Bool
is_node (item.Node net lsb_at input output) = true
is_node (item.Memory m) = false

-- the nodes among the items, in their order
abbrev pub nodes : Circuit → List Item
nodes c = filter (λ i. is_node i.kind) c.items

-- the width of a node in bits
abbrev pub kind_width : List Net → ItemKind → ℕ
kind_width nets (item.Node net lsb_at input output) = net_width (slice_get nets net)
kind_width nets (item.Memory m) = 0

abbrev pub node_width : Circuit → Item → ℕ
node_width c i = kind_width c.nets i.kind

-- the width and the name of a node
abbrev pub node_line : Circuit → Item → List ℕ
node_line c i = decimal (node_width c i) ++ 32 ∷ i.name ++ 10 ∷ []

-- how many nodes there are, and a line for each
abbrev pub header : Circuit → List ℕ
header c = codes "items " ++ decimal (length (nodes c)) ++ 10 ∷ [] ++ flat_map (node_line c) (nodes c)

-- ---- a sample

-- a value in lower-case hexadecimal behind a blank: a quarter of the width, rounded up and at least one, as the number of
-- digits
abbrev pub value_text : ℕ → ℕ → List ℕ
value_text width number = 32 ∷ lowest_digits 16 (hexadecimal_length width) number

-- the values of the nodes, where it is known which number is in which slot
abbrev pub values_text : Circuit → (ℕ → ℕ) → List ℕ
values_text c number_in = flat_map (λ i. value_text (node_width c i) (number_in i.first_slot)) (nodes c)

-- a time, and the values of the nodes
abbrev pub line_of : Circuit → ℕ → (ℕ → ℕ) → List ℕ
line_of c time number_in = time_text time ++ values_text c number_in ++ 10 ∷ []

-- sample k of a run
abbrev pub sample_line : Run → ℕ → List ℕ
sample_line run k = line_of run.circuit (run.row k).time (shown run k)

-- a sample of a recording
abbrev pub recorded_line : Circuit → Sample → List ℕ
recorded_line c s = line_of c s.time (λ slot. slot_number (slot_words (slot_widths c) s.words slot))

-- ---- the whole

unfoldable pub sample_lines : Run → ℕ → List ℕ
sample_lines run zero = []
sample_lines run (suc k) = sample_lines run k ++ sample_line run k

-- how many samples there are, and whether the one behind them does not settle
abbrev pub last_line : Bool → ℕ → List ℕ
last_line unsettled k = (if unsettled then codes "unsettled " else codes "end ") ++ decimal k ++ 10 ∷ []

-- the samples below k, and whether the one behind them does not settle
abbrev pub trace_text : Run → ℕ → Bool → List ℕ
trace_text run k unsettled = header run.circuit ++ sample_lines run k ++ last_line unsettled k

-- the whole text of a run
abbrev pub run_text : Run → List ℕ
run_text run = trace_text run (run_length run) (nat_lt (run_length run) run.count)
