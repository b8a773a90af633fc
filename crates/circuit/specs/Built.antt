-- How a valid circuit is built: its tests one by one, lists that grow, names that differ.
use Rattle.std.specs.Prelude.{◌≡◌, ℕ, ◌^◌, ◌<◌, List, ◌++◌, length, true, Some, slice_get, nat_le, ◌==◌, sum_by}
use Rattle.std.specs.List.{list_all, list_any}
use Rattle.circuit.specs.Shown.{slots_of}
use Rattle.circuit.specs.Valuation.{bits_of}
use Rattle.circuit.specs.Valid.{Drivers, drivers_of, widest, slot_count, net_words, node_count, output_words, register_words, drive_fits, cell_fits, register_fits, mem_fits, inputs_fit, item_fits, slots_run, names_rise, scope_fits, names_differ, diag_fits}
use Rattle.circuit.specs.declared.netlist.Circuit.{Circuit}
use Rattle.circuit.specs.declared.netlist.Net.{Net}
use Rattle.circuit.specs.declared.cell.Cell.{Cell}
use Rattle.circuit.specs.declared.register.Reg.{Reg}
use Rattle.circuit.specs.declared.memory.Mem.{Mem}
use Rattle.circuit.specs.declared.item.Item.{Item}
use Rattle.circuit.specs.declared.item.ItemKind.{ItemKind}
use Rattle.circuit.specs.declared.item.ItemKind.TheVariants as item
use Rattle.circuit.specs.declared.item.Scope.{Scope}

-- ---- the tests of a valid circuit

-- what numbers of 32 bits can count
pub record AreCountable (c : Circuit) : Type 0 where
  pub nets : length c.nets < 2 ^ 32
  pub cells : length c.cells < 2 ^ 32
  pub regs : length c.regs < 2 ^ 32
  pub mems : length c.mems < 2 ^ 32
  pub inputs : length c.inputs < 2 ^ 32
  pub scopes : length c.scopes < 2 ^ 32
  pub slots : slot_count c < 2 ^ 32
  pub nodes : node_count c < 2 ^ 32
  pub bits : bits_of c < 2 ^ 32
  pub net_words : net_words c.nets < 2 ^ 32
  pub output_words : output_words c.cells < 2 ^ 32
  pub register_words : register_words c.regs < 2 ^ 32

-- each list of a circuit passes its tests
pub record AreFitting (c : Circuit) : Type 0 where
  pub counts : AreCountable c
  pub nets : list_all (λ x. nat_le x.width widest) c.nets ≡ true
  pub drives : list_all (drive_fits (drivers_of c)) c.drives ≡ true
  pub cells : list_all (cell_fits c.nets) c.cells ≡ true
  pub regs : list_all (register_fits c.nets) c.regs ≡ true
  pub mems : list_all (mem_fits c.nets) c.mems ≡ true
  pub inputs : inputs_fit c.nets c.items c.inputs ≡ true
  pub items : list_all (item_fits c.nets c.mems c.scopes) c.items ≡ true
  pub slots : slots_run c.mems 0 c.items ≡ true
  pub rise : names_rise c.items ≡ true
  pub scopes : list_all scope_fits c.scopes ≡ true
  pub names : names_differ c.scopes ≡ true
  pub top : list_any (λ s. length s.name == 0) c.scopes ≡ true
  pub diags : list_all (diag_fits c.nets) c.diags ≡ true

-- ---- lists that grow

-- what stands in one list stands in the other at the same place
abbrev pub StandsIn : {X : Type 0} → List X → List X → Type 0
StandsIn {X} xs ys = (i : ℕ) (x : X) → slice_get xs i ≡ Some x → slice_get ys i ≡ Some x

-- so do the lists that a drive names
pub record DriversStandIn (from to : Drivers) : Type 0 where
  pub nets : StandsIn from.nets to.nets
  pub inputs : StandsIn from.inputs to.inputs
  pub cells : StandsIn from.cells to.cells
  pub regs : StandsIn from.regs to.regs
  pub mems : StandsIn from.mems to.mems

-- each list with more behind it
abbrev pub extended : Drivers → List Net → List ℕ → List Cell → List Reg → List Mem → Drivers
extended from nets inputs cells regs mems = record {
  nets = from.nets ++ nets;
  inputs = from.inputs ++ inputs;
  cells = from.cells ++ cells;
  regs = from.regs ++ regs;
  mems = from.mems ++ mems;
}

-- ---- names, numbers and what is shown

-- no two items have one name
abbrev pub AreNamesApart : List Item → Type 0
AreNamesApart items = (i j : ℕ) (x y : Item) → slice_get items i ≡ Some x → slice_get items j ≡ Some y → x.name ≡ y.name → i ≡ j

-- no two scopes have one name
abbrev pub AreScopesApart : List Scope → Type 0
AreScopesApart scopes = (i j : ℕ) (x y : Scope) → slice_get scopes i ≡ Some x → slice_get scopes j ≡ Some y → x.name ≡ y.name → i ≡ j

-- no number stands twice
abbrev pub AreNumbersApart : List ℕ → Type 0
AreNumbersApart numbers = (i j n : ℕ) → slice_get numbers i ≡ Some n → slice_get numbers j ≡ Some n → i ≡ j

-- how many slots items have
abbrev pub slots_of_items : List Mem → List Item → ℕ
slots_of_items mems items = sum_by (λ i. slots_of mems i.kind) items

-- what an item shows is there
abbrev pub ShowsWhatIsThere : Circuit → ItemKind → Type 0
ShowsWhatIsThere c (item.Node net lsb_at input output) = (x : Net) × (slice_get c.nets net ≡ Some x)
ShowsWhatIsThere c (item.Memory m) = (x : Mem) × (slice_get c.mems m ≡ Some x)
