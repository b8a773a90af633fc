-- What becomes of the lists that a design gives: a circuit with its items in their order, and its registers with their start
-- values.
use Rattle.std.specs.Prelude.{◌≡◌, ◌==◌, List, length, Option, true, nat_le}
use Rattle.std.specs.List.{list_all, list_any}
use Rattle.circuit.specs.Built.{AreCountable, AreNamesApart}
use Rattle.circuit.specs.Valid.{cell_fits, diag_fits, drive_fits, drivers_of, inputs_fit, item_fits, mem_fits, names_differ, register_fits, scope_fits, widest}
use Rattle.circuit.specs.declared.item.Item.{Item}
use Rattle.circuit.specs.declared.netlist.Circuit.{Circuit}
use Rattle.rtlil_tree.specs.declared.sig.Const.{Const}
use Rattle.design_items.specs.Arranged.{AreArranged}
use Rattle.design_starts.specs.Starts.{started}

-- the lists with the items arranged, and then with the registers started, by what is written as the start value of each net
pub record IsFinished (made : Circuit) (inits : List (Option Const)) (finished : Circuit) : Type 0 where
  pub items : List Item
  pub arranged : AreArranged made.mems made.items items
  pub whole : finished ≡ started (record made { items = items }) inits

-- what a valid circuit asks of each list, but for the order of the items and their slots; in place of the order no two items
-- have one name
pub record AreReady (c : Circuit) : Type 0 where
  pub counts : AreCountable c
  pub nets : list_all (λ x. nat_le x.width widest) c.nets ≡ true
  pub drives : list_all (drive_fits (drivers_of c)) c.drives ≡ true
  pub cells : list_all (cell_fits c.nets) c.cells ≡ true
  pub regs : list_all (register_fits c.nets) c.regs ≡ true
  pub mems : list_all (mem_fits c.nets) c.mems ≡ true
  pub inputs : inputs_fit c.nets c.items c.inputs ≡ true
  pub items : list_all (item_fits c.nets c.mems c.scopes) c.items ≡ true
  pub apart : AreNamesApart c.items
  pub scopes : list_all scope_fits c.scopes ≡ true
  pub names : names_differ c.scopes ≡ true
  pub top : list_any (λ s. length s.name == 0) c.scopes ≡ true
  pub diags : list_all (diag_fits c.nets) c.diags ≡ true
