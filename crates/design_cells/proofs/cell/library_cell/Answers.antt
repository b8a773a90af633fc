use Rattle.std.proofs.Common.{◌≡◌, List, ℕ, ap, sym, ◌∙◌}
use Rattle.cell_library.specs.Table.{seen}
use Rattle.cell_library.specs.declared.written.Setting.{Setting}
use Rattle.rtlil_tree.specs.declared.module.Setting.{Setting as WrittenSetting}
use Rattle.design_parts.specs.Parts.{run}
use Rattle.design_parts.proofs.Runs.{runs_as}
use Rattle.design_cells.specs.Cells.{library_cell, taken}
use Rattle.design_cells.specs.Joined.{Joined, joined_in, seen_ports, settings_of}
use Rattle.design_cells.proofs.cell.library_cell.Goals as goal

pub returns : goal.returns
returns c =
    let owner = c.args.owner.now in
    let l = seen c.args.line.now in
    let cell = c.args.cell.now in
    let m = c.args.draft.now in
    let ss = c.as_slice-written.result.now in
    let settings = c.as_slice-3.result.now in
    let js = seen_ports c.as_slice-4.result.now in
    let name = c.as_bytes.result.now in
    let e1 : ss ≡ cell.settings = c.as_slice-written.ensures in
    let e2 : settings ≡ settings_of cell.settings = c.as_slice-3.ensures ∙ c.in_ok-settings.ensures ∙ ap settings_of e1 in
    let e3 : js ≡ joined_in c.args.scope.now cell.connections = ap seen_ports c.as_slice-4.ensures ∙ c.in_ok-ports.ensures ∙ ap (joined_in c.args.scope.now) c.as_slice.ensures in
    let e4 : name ≡ cell.name = c.as_bytes.ensures in
    let same : run (taken owner name l ss settings js) m ≡ run (library_cell owner c.args.scope.now l cell) m =
    ap (λ (n : List ℕ). run (taken owner n l ss settings js) m) e4
    ∙ ap (λ (x : List WrittenSetting). run (taken owner cell.name l x settings js) m) e1
    ∙ ap (λ (x : List Setting). run (taken owner cell.name l cell.settings x js) m) e2
    ∙ ap (λ (x : List Joined). run (taken owner cell.name l cell.settings (settings_of cell.settings) x) m) e3 in
    runs_as (library_cell owner c.args.scope.now l cell) (taken owner name l ss settings js) m c.take_cell.result c.take_cell.new.draft (sym same) c.take_cell.ensures
