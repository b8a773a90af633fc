-- A cell of the library keeps that all fits together.
use Rattle.std.proofs.Common.{◌≡◌, ℕ, List, true, None, Some, sym, subst}
use Rattle.circuit.specs.Valid.{widest}
use Rattle.circuit.specs.declared.fault.DesignKind.TheVariants as kind
use Rattle.cell_library.specs.Checks.{first_fault, limit_checks, line_checks}
use Rattle.cell_library.specs.Fit.{GivesFitting}
use Rattle.cell_library.specs.Lines.{TypeLine}
use Rattle.cell_library.specs.Table.{line_of}
use Rattle.cell_library.specs.declared.line.Gives.{Gives}
use Rattle.cell_library.specs.declared.line.Gives.TheVariants as gives
use Rattle.cell_library.specs.declared.written.Setting.{Setting}
use Rattle.cell_library.proofs.Fits.{are_fitting}
use Rattle.rtlil_signals.specs.Signals.{Scope}
use Rattle.rtlil_tree.specs.declared.module.Cell.{Cell as Written}
use Rattle.rtlil_tree.specs.declared.module.Setting.{Setting as WrittenSetting}
use Rattle.design_parts.specs.Parts.{Made, both_made, give}
use Rattle.design_cells.specs.Cells.{library_cell, made_by, taken}
use Rattle.design_cells.specs.Joined.{Joined, connections_of, joined_in, settings_of}
use Rattle.design_cells.specs.Rules.{has_room, kind_checks, located}
use Rattle.design_valid.specs.Keeps.{Keeps}
use Rattle.design_valid.specs.Wired.{AreWired, IsWiredIn}
use Rattle.design_valid.proofs.Keeping.{run_given, run_guarded}
use Rattle.design_valid.proofs.Wiring.{stands_more, wired_in_with}
use Rattle.design_valid_cells.proofs.Cells.{cell_wired}
use Rattle.design_valid_cells.proofs.Checked.{limits_hold, line_passes, unlocated}
use Rattle.design_valid_cells.proofs.Ports.{all_fit, joined_fit}
use Rattle.design_valid_cells.proofs.Registers.{register_wired}

gives_wired : (l : TypeLine) (settings : List Setting) (js : List Joined) → first_fault (line_checks l settings (connections_of js)) ≡ None → first_fault (limit_checks settings widest kind.TooWide l.ports) ≡ None
    → (ss : List WrittenSetting) (m : Made) (g : Gives) → GivesFitting g l settings → let made = made_by g l ss settings js m in all_fit (both_made m made).nets js ≡ true → AreWired (both_made m made) made
gives_wired l settings js passed limits ss m (gives.Cell o) fits fit = cell_wired l settings js passed limits o fits m fit
gives_wired l settings js passed limits ss m (gives.Register k) are fit = register_wired l settings js passed limits k ss are m fit

pub keeps_library_cell : (owner : List ℕ) (scope : Scope) (name : List ℕ) (l : TypeLine) (c : Written) → line_of name ≡ Some l → Keeps (IsWiredIn scope) (library_cell owner scope l c)
unfolding taken
keeps_library_cell owner scope name l c found m n e h =
    let settings : List Setting = settings_of c.settings in
    let js : List Joined = joined_in scope c.connections in
    let made : Made = made_by l.gives l c.settings settings js m in
    let parts = run_guarded (λ x. located owner c.name (kind_checks l settings js (has_room x))) (give (made_by l.gives l c.settings settings js)) m n e in
    let checked = unlocated owner c.name (kind_checks l settings js (has_room m)) parts.0 in
    let passed = line_passes l settings js (has_room m) checked in
    let limits = limits_hold l settings js (has_room m) checked in
    let fit = joined_fit (both_made m made).nets scope (stands_more scope m.nets made.nets h.stands) c.connections in
    subst (IsWiredIn scope) (sym (run_given (made_by l.gives l c.settings settings js) m n parts.1))
    (wired_in_with scope m made h (gives_wired l settings js passed limits c.settings m l.gives (are_fitting name l found settings (connections_of js) passed) fit))
