-- The words of what slots show.
use Rattle.std.specs.Prelude.{◌≡◌, ℕ, suc, List, [], ◌∷◌, ◌++◌, map, Some}
use Rattle.std.specs.List.{flat_map}
use Rattle.sim_base.specs.BitValue.{bit_value}
use Rattle.sim_base.specs.Parts.{halves_of}
use Rattle.circuit.specs.Rounds.{Run, Standing, standing_at}
use Rattle.circuit.specs.Shown.{fires_at, item_number, shown}
use Rattle.circuit.specs.Slots.{item_widths, slot_widths}
use Rattle.circuit.specs.declared.netlist.Circuit.{Circuit}
use Rattle.circuit.specs.declared.item.Item.{Item}
use Rattle.circuit.specs.declared.item.ItemKind.{ItemKind}
use Rattle.eval_commit.specs.Machine.{MachineState}

-- slots of these widths, each of which shows a number: the words of one behind those of another
unfoldable pub words_of_slots : List ℕ → (ℕ → ℕ) → List ℕ
words_of_slots [] number = []
words_of_slots (width ∷ rest) number = halves_of (bit_value width (number 0)) ++ words_of_slots rest (λ slot. number (suc slot))

-- the words of all slots at sample k
abbrev pub words_at : Run → ℕ → List ℕ
words_at run k = words_of_slots (slot_widths run.circuit) (shown run k)

-- the words of an item's slots
abbrev pub kind_words : Circuit → Standing → ItemKind → List ℕ
kind_words c s kind = words_of_slots (item_widths c.nets c.mems kind) (item_number s kind)

abbrev pub item_words : Circuit → Standing → List Item → List ℕ
item_words c s items = flat_map (λ i. kind_words c s i.kind) items

-- the widths of the slots of items
abbrev pub widths_of_items : Circuit → List Item → List ℕ
widths_of_items c items = flat_map (λ i. item_widths c.nets c.mems i.kind) items

-- a machine stands where sample k of a run leaves it
pub record StandsAt (run : Run) (k : ℕ) (m : MachineState) (s : Standing) : Type 0 where
  pub circuit : m.circuit ≡ run.circuit
  pub left : standing_at run k ≡ Some s
  pub standing : m.standing ≡ Some s
  pub fired : m.fired ≡ map (fires_at run k) run.circuit.diags
