-- The text of a trace: the items, a line for each sample, and how it ended. Every line ends with a line feed.
use Rattle.std.specs.Prelude.{ℕ, zero, suc, ◌+◌, ◌/◌, List, [], ◌∷◌, ◌++◌, length, max, Bool, nat_lt, codes, decimal, if◌then◌else◌, slice_get}
use Rattle.std.specs.List.{flat_map}
use Rattle.sim_base.specs.Digits.{lowest_digits}
use Rattle.sim_base.specs.TimeText.{time_text}
use Rattle.circuit.specs.Rounds.{Run, Standing, run_length}
use Rattle.circuit.specs.Shown.{item_number, shown}
use Rattle.circuit.specs.declared.netlist.Circuit.{Circuit}
use Rattle.circuit.specs.declared.item.Item.{Item}
use Rattle.circuit.specs.declared.item.ItemKind.{ItemKind}
use Rattle.circuit.specs.declared.item.ItemKind.TheVariants as item
use Rattle.flat_design.specs.Flat.{width_of}

-- the width of a node in bits; a memory, which a flat circuit has not, has none
abbrev pub kind_width : Circuit → ItemKind → ℕ
kind_width c (item.Node net lsb_at input output) = width_of (slice_get c.nets net)
kind_width c (item.Memory m) = 0

abbrev pub item_width : Circuit → Item → ℕ
item_width c i = kind_width c i.kind

abbrev pub item_line : Circuit → Item → List ℕ
item_line c i = decimal (item_width c i) ++ 32 ∷ i.name ++ 10 ∷ []

-- the number of nodes, and a line with the width and the name of each
abbrev pub header : Circuit → List ℕ
header c = codes "items " ++ decimal (length c.items) ++ 10 ∷ [] ++ flat_map (item_line c) c.items

-- a value in lower-case hexadecimal: a quarter of the width, rounded up and at least one, as the number of digits
abbrev pub value_text : ℕ → ℕ → List ℕ
value_text width number = 32 ∷ lowest_digits 16 (max 1 ((width + 3) / 4)) number

-- the values of all items, from how the circuit stands
abbrev pub values_text : Circuit → Standing → List ℕ
values_text c s = flat_map (λ i. value_text (item_width c i) (item_number s i.kind 0)) c.items

abbrev pub item_value_text : Run → ℕ → Item → List ℕ
item_value_text run k i = value_text (item_width run.circuit i) (shown run k i.first_slot)

-- the time of sample k and the values of the items
abbrev pub sample_line : Run → ℕ → List ℕ
sample_line run k = time_text (run.row k).time ++ flat_map (item_value_text run k) run.circuit.items ++ 10 ∷ []

unfoldable pub sample_lines : Run → ℕ → List ℕ
sample_lines run zero = []
sample_lines run (suc k) = sample_lines run k ++ sample_line run k

abbrev pub last_line : Bool → ℕ → List ℕ
last_line unsettled k = (if unsettled then codes "unsettled " else codes "end ") ++ decimal k ++ 10 ∷ []

-- the samples below k, and whether the one behind them does not settle
abbrev pub trace_text : Run → ℕ → Bool → List ℕ
trace_text run k unsettled = header run.circuit ++ sample_lines run k ++ last_line unsettled k

-- the whole text of a run
abbrev pub run_text : Run → List ℕ
run_text run = trace_text run (run_length run) (nat_lt (run_length run) run.count)
