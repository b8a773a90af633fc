-- A cell whose type is no module keeps that all fits together.
use Rattle.std.proofs.Common.{◌≡◌, Bool, true, false, Option, Some, None, refl, subst, bytes_eq, codes}
use Rattle.cell_library.specs.Lines.{TypeLine}
use Rattle.cell_library.specs.Table.{line_of}
use Rattle.rtlil_signals.specs.Signals.{Scope}
use Rattle.rtlil_tree.specs.declared.module.Cell.{Cell}
use Rattle.design_parts.specs.Parts.{Walk}
use Rattle.design_wires.specs.Places.{InstancePlace}
use Rattle.design_cells.specs.Cells.{library_cell}
use Rattle.design_memory.specs.Memories.{memory}
use Rattle.design_diagnostics.specs.Diagnostics.{silent_cell}
use Rattle.design_diagnostics.specs.Names.{type_named}
use Rattle.design_diagnostics.specs.declared.names.SilentType.{SilentType}
use Rattle.design_walk.specs.Cells.{of_line, of_memory, of_silent, or_else, typed_cell}

-- what each of these types keeps, a cell of any of them keeps
pub by_types : (Keeping : Walk → Type 0) (here : InstancePlace) (scope : Scope) (c : Cell) (w : Walk) → ((l : TypeLine) → line_of c.kind ≡ Some l → Keeping (library_cell here.owner scope l c)) → Keeping (memory here scope c) → ((t : SilentType) → Keeping (silent_cell here scope t c))
    → typed_cell here scope c ≡ Some w → Keeping w
unfolding typed_cell
by_types Keeping here scope c w library mem silent is = by (line_of c.kind) refl (bytes_eq c.kind (codes "$mem_v2")) (type_named c.kind) is
  where
    by : (line : Option TypeLine) → line_of c.kind ≡ line → (b : Bool) (t : Option SilentType) → or_else (of_line here scope c line) (or_else (of_memory here scope c b) (of_silent here scope c t)) ≡ Some w → Keeping w
    by (Some l) e b t is = let same : library_cell here.owner scope l c ≡ w = cc is in subst Keeping same (library l e)
    by None e true t is = let same : memory here scope c ≡ w = cc is in subst Keeping same mem
    by None e false (Some t) is = let same : silent_cell here scope t c ≡ w = cc is in subst Keeping same (silent t)
    by None e false None is = cc is
