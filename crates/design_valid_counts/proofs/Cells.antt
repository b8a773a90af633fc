-- Cells whose types are no modules.
use Rattle.std.proofs.Common.{◌≡◌, ℕ, ◌+◌, ◌≤◌, ◌<◌, List, [], ◌∷◌, ◌++◌, Bool, true, false, Option, Some, None, refl, sym, subst, arith}
use Rattle.std.specs.Prelude.{nat_le}
use Rattle.std.proofs.lemmas.Bool.{and_parts, leb-true, ltb-true}
use Rattle.std.proofs.lemmas.List.Sums.{sum_by-cons}
use Rattle.circuit.specs.Valid.{widest}
use Rattle.circuit.specs.declared.fault.DesignKind.TheVariants as kind
use Rattle.circuit.specs.declared.memory.Mem.{Mem}
use Rattle.cell_library.specs.Checks as library
use Rattle.cell_library.specs.Checks.{Check, first_fault, limit_checks, parameter_checks, slice_checks, width_checks}
use Rattle.cell_library.specs.Lines.{TypeLine}
use Rattle.cell_library.specs.declared.line.Gives.{Gives}
use Rattle.cell_library.specs.declared.line.Gives.TheVariants as gives
use Rattle.cell_library.specs.declared.written.Setting.{Setting}
use Rattle.cell_library.proofs.Limits.{second}
use Rattle.rtlil_signals.specs.Signals.{Scope}
use Rattle.rtlil_tree.specs.declared.module.Attribute.{Attribute}
use Rattle.rtlil_tree.specs.declared.module.Cell.{Cell as Written}
use Rattle.rtlil_tree.specs.declared.module.Setting.{Setting as WrittenSetting}
use Rattle.design_parts.specs.Parts.{Made, both_made, give, part_count}
use Rattle.design_wires.specs.Places.{InstancePlace}
use Rattle.design_cells.specs.Cells as cells
use Rattle.design_cells.specs.Cells.{library_cell, made_by}
use Rattle.design_cells.specs.Joined.{Joined, connections_of, joined_in, settings_of}
use Rattle.design_cells.specs.Rules.{are_inside, are_known, has_room, kind_checks, located, most_parts, narrow_checks}
use Rattle.design_memory.specs.Memories as memories
use Rattle.design_memory.specs.Memories.{memory, memory_made, memory_of}
use Rattle.design_memory.specs.Rules as rows
use Rattle.design_memory.specs.Rules.{identifier_fits, memory_checks, most_memory_bits, most_rows}
use Rattle.design_memory.specs.Settings.{item_identifier, shape_of, values_of}
use Rattle.design_memory.specs.declared.settings.Shape.{Shape}
use Rattle.design_diagnostics.specs.Diagnostics as diagnostics
use Rattle.design_diagnostics.specs.Diagnostics.{silent_cell, silent_made}
use Rattle.design_diagnostics.specs.Readings.{cell_text, reading_of}
use Rattle.design_diagnostics.specs.Rules as silent
use Rattle.design_diagnostics.specs.Rules.{silent_checks}
use Rattle.design_diagnostics.specs.declared.names.SilentType.{SilentType}
use Rattle.design_diagnostics.specs.declared.reading.Reading.{Reading}
use Rattle.design_valid.specs.Keeps.{Keeps}
use Rattle.design_valid.proofs.Keeping.{holds_at, run_given, run_guarded}
use Rattle.design_valid_cells.proofs.Checked.{unlocated}
use Rattle.design_valid_counts.specs.Counted.{AreCounted, row_count}
use Rattle.design_valid_counts.proofs.Added.{drives_counted, part_counted}

-- ---- cells of the library

last_holds : (b : Bool) → first_fault (library.check b kind.TooLarge ∷ []) ≡ None → b ≡ true
last_holds true e = refl
last_holds false e = cc e

room_holds : (l : TypeLine) (settings : List Setting) (js : List Joined) (room : Bool) → first_fault (kind_checks l settings js room) ≡ None → room ≡ true
unfolding kind_checks
room_holds l settings js room e =
    let last : List Check = library.check room kind.TooLarge ∷ [] in
    let narrow : List Check = narrow_checks l settings ++ last in
    let limits : List Check = limit_checks settings widest kind.TooWide l.ports ++ narrow in
    let widths : List Check = width_checks settings l.ports (connections_of js) ++ limits in
    let inside : List Check = library.check (are_inside js) kind.Width ∷ [] ++ widths in
    let names : List Check = library.check (are_known l.ports js) kind.UnknownName ∷ [] ++ inside in
    let slices : List Check = slice_checks l.gives settings ++ names in
    last_holds room
    (second (narrow_checks l settings) last
    (second (limit_checks settings widest kind.TooWide l.ports) narrow
    (second (width_checks settings l.ports (connections_of js)) limits
    (second (library.check (are_inside js) kind.Width ∷ []) widths
    (second (library.check (are_known l.ports js) kind.UnknownName ∷ []) inside
    (second (slice_checks l.gives settings) names
    (second (parameter_checks settings l.parameters) slices e)))))))

room_for_one : (m : Made) → has_room m ≡ true → part_count m + 1 ≤ most_parts
room_for_one m h = let fewer : part_count m < most_parts = ltb-true (part_count m) most_parts h in omega (arith, fewer)

gives_counted : (l : TypeLine) (ss : List WrittenSetting) (settings : List Setting) (js : List Joined) (m : Made) (g : Gives) → AreCounted m → has_room m ≡ true → AreCounted (both_made m (made_by g l ss settings js m))
gives_counted l ss settings js m (gives.Cell o) h room = part_counted m (made_by (gives.Cell o) l ss settings js m) h refl refl refl (room_for_one m room) (omega (arith, h.rows))
gives_counted l ss settings js m (gives.Register k) h room = part_counted m (made_by (gives.Register k) l ss settings js m) h refl refl refl (room_for_one m room) (omega (arith, h.rows))

pub library_counted : (owner : List ℕ) (scope : Scope) (l : TypeLine) (c : Written) → Keeps AreCounted (library_cell owner scope l c)
unfolding cells.taken
library_counted owner scope l c m n e h =
    let settings : List Setting = settings_of c.settings in
    let js : List Joined = joined_in scope c.connections in
    let make : Made → Made = made_by l.gives l c.settings settings js in
    let parts = run_guarded (λ x. located owner c.name (kind_checks l settings js (has_room x))) (give make) m n e in
    let room = room_holds l settings js (has_room m) (unlocated owner c.name (kind_checks l settings js (has_room m)) parts.0) in
    subst AreCounted (sym (run_given make m n parts.1)) (gives_counted l c.settings settings js m l.gives h room)

-- ---- memories

pub memory_counted : (here : InstancePlace) (scope : Scope) (c : Written) → Keeps AreCounted (memory here scope c)
unfolding memories.taken memory_checks rows.has_room
memory_counted here scope c m n e h =
    let s : Shape = shape_of c.settings in
    let js : List Joined = joined_in scope c.connections in
    let make : Made → Made = memory_made here.shown (item_identifier c.settings) c.attributes s (values_of c.settings) js in
    let made : Made = make m in
    let parts = run_guarded (memory_checks here c.name c.settings c.connections js) (give make) m n e in
    let room : rows.has_room here.shown (item_identifier c.settings) s m ≡ true = holds_at (memory_checks here c.name c.settings c.connections js m) 4 _ parts.0 refl in
    let first = and_parts (has_room m) _ room in
    let second = and_parts (nat_le (row_count m + s.size) most_rows) _ first.1 in
    let within : row_count m + s.size ≤ most_rows = leb-true (row_count m + s.size) most_rows second.0 in
    let one : row_count made ≡ s.size + 0 = sum_by-cons (λ (x : Mem). x.size) (memory_of s (values_of c.settings) js) [] in
    subst AreCounted (sym (run_given make m n parts.1)) (part_counted m made h refl refl refl (room_for_one m first.0) (omega (arith, one, within)))

-- ---- cells that drive nothing

silent_added : (r : Option Reading) (text : List ℕ) (attributes : List Attribute) (ss : List WrittenSetting) (js : List Joined) (m : Made) → AreCounted m → silent.has_room r text m ≡ true → AreCounted (both_made m (silent_made r text attributes ss js))
silent_added None text attributes ss js m h room = drives_counted m (silent_made None text attributes ss js) h refl refl refl refl refl
silent_added (Some r) text attributes ss js m h room =
    part_counted m (silent_made (Some r) text attributes ss js) h refl refl refl (room_for_one m (and_parts (has_room m) _ room).0) (omega (arith, h.rows))

pub silent_counted : (here : InstancePlace) (scope : Scope) (t : SilentType) (c : Written) → Keeps AreCounted (silent_cell here scope t c)
unfolding diagnostics.taken silent_checks
silent_counted here scope t c m n e h =
    let r : Option Reading = reading_of t c.settings in
    let js : List Joined = joined_in scope c.connections in
    let text : List ℕ = cell_text here c.name in
    let made : Made = silent_made r text c.attributes c.settings js in
    let parts = run_guarded (silent_checks here c.name r c.settings js) (give (λ _. made)) m n e in
    let room : silent.has_room r text m ≡ true = holds_at (silent_checks here c.name r c.settings js m) 4 _ parts.0 refl in
    subst AreCounted (sym (run_given (λ _. made) m n parts.1)) (silent_added r text c.attributes c.settings js m h room)
