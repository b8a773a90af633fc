-- A memory keeps that all fits together.
use Rattle.std.proofs.Common.{◌≡◌, ℕ, List, length, Option, true, refl, sym, subst}
use Rattle.circuit.specs.Valid.{mem_fits}
use Rattle.circuit.specs.declared.memory.Mem.{Mem}
use Rattle.rtlil_signals.specs.Signals.{Scope}
use Rattle.rtlil_tree.specs.declared.module.Attribute.{Attribute}
use Rattle.rtlil_tree.specs.declared.module.Cell.{Cell}
use Rattle.design_parts.specs.Parts.{Made, both_made, give}
use Rattle.design_wires.specs.Places.{InstancePlace, ShownPlace}
use Rattle.design_cells.specs.Joined.{Joined, joined_in}
use Rattle.design_memory.specs.Memories.{memory, memory_made, memory_of, taken}
use Rattle.design_memory.specs.Rules.{are_joined, are_narrow, memory_checks}
use Rattle.design_memory.specs.Settings.{item_identifier, shape_of, values_of}
use Rattle.design_memory.specs.declared.settings.Shape.{Shape}
use Rattle.design_memory.specs.declared.settings.Values.{Values}
use Rattle.design_valid.specs.Keeps.{Keeps}
use Rattle.design_valid.specs.Wired.{AreWired, IsWiredIn}
use Rattle.design_valid.proofs.Keeping.{holds_at, run_given, run_guarded}
use Rattle.design_valid.proofs.Lists.{all_one, last_stands}
use Rattle.design_valid.proofs.Wiring.{stands_more, wired_in_with}
use Rattle.design_valid_cells.proofs.Ports.{all_fit, joined_fit}
use Rattle.design_valid_memory.proofs.Fitting.{memory_fits, reads_driven}

memory_wired : (shown : Option ShownPlace) (identifier : Option (List ℕ)) (attributes : List Attribute) (s : Shape) (v : Values) (js : List Joined) → are_joined s js ≡ true → are_narrow s ≡ true → (m : Made)
    → let made = memory_made shown identifier attributes s v js m in all_fit (both_made m made).nets js ≡ true → AreWired (both_made m made) made
memory_wired shown identifier attributes s v js joined narrow m fit =
    let made : Made = memory_made shown identifier attributes s v js m in
    let all : Made = both_made m made in
    let one : Mem = memory_of s v js in
    record {
      nets = refl;
      drives = reads_driven s v js joined narrow all (length m.mems) (last_stands m.mems one) fit;
      cells = refl;
      regs = refl;
      mems = all_one (mem_fits all.nets) one (memory_fits s v js joined narrow all.nets fit);
      diags = refl;
    }

pub keeps_memory : (here : InstancePlace) (scope : Scope) (c : Cell) → Keeps (IsWiredIn scope) (memory here scope c)
unfolding taken memory_checks
keeps_memory here scope c m n e h =
    let s : Shape = shape_of c.settings in
    let v : Values = values_of c.settings in
    let js : List Joined = joined_in scope c.connections in
    let make : Made → Made = memory_made here.shown (item_identifier c.settings) c.attributes s v js in
    let made : Made = make m in
    let parts = run_guarded (memory_checks here c.name c.settings c.connections js) (give make) m n e in
    let joined : are_joined s js ≡ true = holds_at (memory_checks here c.name c.settings c.connections js m) 2 _ parts.0 refl in
    let narrow : are_narrow s ≡ true = holds_at (memory_checks here c.name c.settings c.connections js m) 3 _ parts.0 refl in
    let fit = joined_fit (both_made m made).nets scope (stands_more scope m.nets made.nets h.stands) c.connections in
    subst (IsWiredIn scope) (sym (run_given make m n parts.1))
    (wired_in_with scope m made h (memory_wired here.shown (item_identifier c.settings) c.attributes s v js joined narrow m fit))
