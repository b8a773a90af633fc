-- What a whole design shows fits.
use Rattle.std.proofs.Common.{◌≡◌, List, Ok, true}
use Rattle.std.specs.List.{list_all}
use Rattle.rtlil_tree.specs.declared.module.Module.{Module}
use Rattle.design_parts.specs.Parts.{Made, none_made, run}
use Rattle.design_top.specs.Inputs.{inputs}
use Rattle.design_walk.specs.Instances.{top_place}
use Rattle.design_walk.specs.Walks.{Standing, top_inside, top_walk}
use Rattle.design_valid.specs.Keeps.{Keeps}
use Rattle.design_valid_walk.proofs.Typed.{by_types}
use Rattle.design_valid_walk.proofs.Walking.{Rules, top_holds}
use Rattle.design_valid_items.specs.Shown.{HasTop, IsShown}
use Rattle.rtlil_names.specs.Names.{is_text_module}
use Rattle.design_valid_items.proofs.Growing.{Inside, place_behind}
use Rattle.design_valid_items.proofs.Instances.{arrival_shown, good_statements, named_text, top_shown}
use Rattle.design_valid_items.proofs.Leaves.{Good, connect_shown, inputs_shown, library_shown, memory_shown, silent_shown}

abbrev In : Standing → Made → Type 0
In here m = Inside here.place m

showing : (ms : List Module) → list_all is_text_module ms ≡ true → Rules ms Good In
showing ms texts = record {
  known = λ name m is. good_statements m (named_text ms name m texts is);
  connects = λ here a good. connect_shown here.place here.scope a;
  cells = λ here c w good is. by_types (Keeps (Inside here.place)) here.place here.scope c w (λ l found. library_shown here.place here.scope l c) (memory_shown here.place here.scope c) (λ t. silent_shown here.place here.scope t c good) is;
  arrives = λ around c m before behind good is may ran h. arrival_shown around.place around.scope c m before behind (named_text ms c.kind m texts is) good ran h;
  leaves = λ around c m before behind grew h within. record { shown = within.shown; place = place_behind around.place before behind grew h.place; top = within.top };
}

design_inside : (ms : List Module) (top : Module) (made : Made) → list_all is_text_module ms ≡ true → is_text_module top ≡ true → run (top_walk (λ scope. inputs scope top.statements) ms top) none_made ≡ Ok made → Inside (top_place top 0) made
design_inside ms top made texts text ran =
    top_holds ms Good In (showing ms texts) (λ scope. inputs scope top.statements) top made (good_statements top text)
    (λ between behind first given. inputs_shown (top_place top 0) (top_inside top none_made).scope top.statements between behind given (top_shown top between text first)) ran

pub design_shown : (ms : List Module) (top : Module) (made : Made) → list_all is_text_module ms ≡ true → is_text_module top ≡ true → run (top_walk (λ scope. inputs scope top.statements) ms top) none_made ≡ Ok made → IsShown made
design_shown ms top made texts text ran = (design_inside ms top made texts text ran).shown

pub design_top : (ms : List Module) (top : Module) (made : Made) → list_all is_text_module ms ≡ true → is_text_module top ≡ true → run (top_walk (λ scope. inputs scope top.statements) ms top) none_made ≡ Ok made → HasTop made
design_top ms top made texts text ran = (design_inside ms top made texts text ran).top
