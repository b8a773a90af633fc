-- What is appended to the lists of a circuit.
use Rattle.std.proofs.Common.{◌≡◌, ℕ, ◌+◌, List, [], ◌∷◌, ◌++◌, append-nil, None, Ok, sym, ap, ◌∙◌, arith}
use Rattle.circuit.specs.declared.cell.Cell.{Cell}
use Rattle.circuit.specs.declared.netlist.Drive.{Drive}
use Rattle.circuit.specs.declared.register.Reg.{Reg}
use Rattle.circuit.specs.declared.netlist.By.{By}
use Rattle.circuit.specs.declared.netlist.Piece.{Piece}
use Rattle.cell_library.specs.Lines.{TypeLine}
use Rattle.cell_library.specs.declared.written.Setting.{Setting}
use Rattle.rtlil_tree.specs.declared.module.Setting.{Setting as WrittenSetting}
use Rattle.rtlil_signals.specs.Drives.{driven_from}
use Rattle.design_parts.specs.Parts as parts
use Rattle.design_parts.specs.Parts.{Fails, Made, both_made, give, judged, none_made, run}
use Rattle.design_parts.specs.declared.refusal.Refusal.{Refusal}
use Rattle.design_parts.proofs.Runs.{give_ok, guard_fails, guard_ok}
use Rattle.design_cells.specs.Cells.{made_by, taken}
use Rattle.design_cells.specs.Joined.{Joined}
use Rattle.design_cells.specs.Rules.{has_room, kind_checks, located}

add_none : (a : ℕ) → a + 0 ≡ a
add_none a = omega arith

pub made_cell : (m : Made) (x : Cell) (ds : List Drive) → both_made m (record none_made { cells = x ∷ []; drives = ds }) ≡ (record m { cells = m.cells ++ x ∷ []; drives = m.drives ++ ds })
made_cell m x ds = simp (append-nil, add_none)

pub made_register : (m : Made) (r : Reg) (ds : List Drive) → both_made m (record none_made { regs = r ∷ []; drives = ds }) ≡ (record m { regs = m.regs ++ r ∷ []; drives = m.drives ++ ds })
made_register m r ds = simp (append-nil, add_none)

-- ---- drives of nothing

pub no_drives : (m : Made) (source : ℕ → By) (ps : List Piece) → ps ≡ [] → m ≡ (record m { drives = m.drives ++ driven_from source 0 ps })
unfolding driven_from
no_drives m source ps e = sym (ap (λ (qs : List Piece). let n : Made = record m { drives = m.drives ++ driven_from source 0 qs } in n) e ∙ ap (λ (ds : List Drive). let n : Made = record m { drives = ds } in n) (append-nil m.drives))

-- ---- a cell of the library

module _ (owner name : List ℕ) (l : TypeLine) (ss : List WrittenSetting) (settings : List Setting) (js : List Joined) (m : Made) where
  pub taken_ok : parts.first_fault (located owner name (kind_checks l settings js (has_room m))) ≡ None → run (taken owner name l ss settings js) m ≡ Ok (both_made m (made_by l.gives l ss settings js m))
  unfolding taken
  taken_ok h = guard_ok (λ n. located owner name (kind_checks l settings js (has_room n))) (give (made_by l.gives l ss settings js)) m h ∙ give_ok (made_by l.gives l ss settings js) m

  pub taken_fails : (e : Refusal) → Fails e (judged (parts.first_fault (located owner name (kind_checks l settings js (has_room m)))) (tt {0})) → Fails e (run (taken owner name l ss settings js) m)
  unfolding taken
  taken_fails e h = guard_fails (λ n. located owner name (kind_checks l settings js (has_room n))) (give (made_by l.gives l ss settings js)) m e h
