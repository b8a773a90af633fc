-- The line that names the inputs.
use Rattle.std.specs.Prelude.{◌≡◌, ℕ, ◌==◌, Bool, List, [], ◌∷◌, length, map, position, Option, Some, None, option_and_then, bytes_eq, nat_eq, slice_get, if◌then◌else◌}
use Rattle.std.specs.Map.{lookup}
use Rattle.std.specs.Option.{option_map}
use Rattle.circuit.specs.declared.netlist.Circuit.{Circuit}
use Rattle.circuit.specs.declared.netlist.Net.{Net}
use Rattle.circuit.specs.declared.item.Item.{Item}
use Rattle.circuit.specs.declared.item.ItemKind.{ItemKind}
use Rattle.circuit.specs.declared.item.ItemKind.TheVariants as item
use Rattle.stimulus_blocks.specs.Courses.{Course}

-- the net of an item that is a node
abbrev pub net_of_kind : ItemKind → Option ℕ
net_of_kind (item.Node net lsb_at input output) = Some net
net_of_kind (item.Memory m) = None

abbrev pub item_names : List Item → List (List ℕ)
item_names items = map (λ i. i.name) items

-- the net that is a node of this name
abbrev pub net_named : Circuit → List ℕ → Option ℕ
net_named c name = option_and_then (λ n. option_and_then (λ i. net_of_kind i.kind) (slice_get c.items n)) (position (bytes_eq name) (item_names c.items))

-- the nets that words name, where each names one
unfoldable pub nets_named : Circuit → List (List ℕ) → Option (List ℕ)
nets_named c [] = Some []
nets_named c (word ∷ words) = option_and_then (λ net. option_map (λ nets. net ∷ nets) (nets_named c words)) (net_named c word)

-- the column of each input: the place of its net among the nets that are named, where it is there
unfoldable pub columns_of : List ℕ → List ℕ → Option (List ℕ)
columns_of nets [] = Some []
columns_of nets (input ∷ inputs) = option_and_then (λ column. option_map (λ columns. column ∷ columns) (columns_of nets inputs)) (position (nat_eq input) nets)

-- a table tells of each key the first place at which it stands in a list
abbrev pub TellsPlaces : {K : Type 0} → (K → K → Bool) → List K → List (K × ℕ) → Type 0
TellsPlaces {K} eq keys places = (key : K) → lookup (eq key) places ≡ position (eq key) keys

abbrev pub width_where : Option Net → ℕ
width_where None = 0
width_where (Some x) = x.width

abbrev pub width_of : Circuit → ℕ → ℕ
width_of c net = width_where (slice_get c.nets net)

abbrev pub course_over : Circuit → List ℕ → List ℕ → Course
course_over c nets columns = record { widths = map (width_of c) nets; columns = columns; blocks = [] }

-- as many nets as there are inputs, among which each input is: so each is named once
abbrev pub course_named : Circuit → List ℕ → Option Course
course_named c nets = if length nets == length c.inputs then option_map (course_over c nets) (columns_of nets c.inputs) else None

-- a stimulus without blocks, where words name each input once
unfoldable pub inputs_named : Circuit → List (List ℕ) → Option Course
inputs_named c words = option_and_then (course_named c) (nets_named c words)
