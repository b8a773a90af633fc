-- What a memory appends to the lists of a circuit, and what its rule gives.
use Rattle.std.proofs.Common.{◌≡◌, ℕ, ◌+◌, List, [], ◌∷◌, ◌++◌, append-nil, None, Ok, refl, ap, ◌∙◌, arith}
use Rattle.circuit.specs.Signal.{sig_part}
use Rattle.circuit.specs.declared.item.Item.{Item}
use Rattle.circuit.specs.declared.memory.Mem.{Mem}
use Rattle.circuit.specs.declared.netlist.Drive.{Drive}
use Rattle.rtlil_tree.specs.declared.module.Attribute.{Attribute}
use Rattle.rtlil_tree.specs.declared.module.Connection.{Connection}
use Rattle.rtlil_tree.specs.declared.module.Setting.{Setting}
use Rattle.design_parts.specs.Parts.{Fails, Made, both_made, first_fault, give, judged, none_made, run}
use Rattle.design_parts.specs.declared.refusal.Refusal.{Refusal}
use Rattle.design_parts.proofs.Runs.{give_ok, guard_fails, guard_ok}
pub use Rattle.design_parts.proofs.Runs.{says_fails}
use Rattle.design_wires.specs.Places.{InstancePlace}
use Rattle.design_cells.specs.Joined.{Joined}
use Rattle.design_memory.specs.Memories.{memory_made, taken}
use Rattle.design_memory.specs.Rules.{memory_checks}
use Rattle.design_memory.specs.Settings.{item_identifier, shape_of, values_of}

add_none : (a : ℕ) → a + 0 ≡ a
add_none a = omega arith

pub no_part : (at width : ℕ) → sig_part at width [] ≡ []
unfolding sig_part
no_part at width = refl

pub made_memory : (m : Made) (x : Mem) (ds : List Drive) (is : List Item) → both_made m (record none_made { mems = x ∷ []; drives = ds; items = is }) ≡ (record m { mems = m.mems ++ x ∷ []; drives = m.drives ++ ds; items = m.items ++ is })
made_memory m x ds is = simp (append-nil, add_none)

module _ (here : InstancePlace) (name : List ℕ) (attributes : List Attribute) (ss : List Setting) (cs : List Connection) (js : List Joined) (m : Made) where
  pub taken_ok : first_fault (memory_checks here name ss cs js m) ≡ None → run (taken here name attributes ss cs js) m ≡ Ok (both_made m (memory_made here.shown (item_identifier ss) attributes (shape_of ss) (values_of ss) js m))
  unfolding taken
  taken_ok h =
      guard_ok (memory_checks here name ss cs js) (give (memory_made here.shown (item_identifier ss) attributes (shape_of ss) (values_of ss) js)) m h
      ∙ give_ok (memory_made here.shown (item_identifier ss) attributes (shape_of ss) (values_of ss) js) m

  pub taken_fails : (e : Refusal) → Fails e (judged (first_fault (memory_checks here name ss cs js m)) (tt {0})) → Fails e (run (taken here name attributes ss cs js) m)
  unfolding taken
  taken_fails e h = guard_fails (memory_checks here name ss cs js) (give (memory_made here.shown (item_identifier ss) attributes (shape_of ss) (values_of ss) js)) m e h
