-- What a whole design gives is counted.
use Rattle.std.proofs.Common.{◌≡◌, List, [], ◌∷◌, Ok}
use Rattle.rtlil_tree.specs.declared.module.Module.{Module}
use Rattle.rtlil_tree.specs.declared.module.Statement.{Statement}
use Rattle.design_parts.specs.Parts.{Made, none_made, run}
use Rattle.design_top.specs.Inputs.{inputs}
use Rattle.design_walk.specs.Walks.{Standing, top_inside, top_walk}
use Rattle.design_valid.specs.Keeps.{Keeps}
use Rattle.design_valid_walk.proofs.Typed.{by_types}
use Rattle.design_valid_walk.proofs.Walking.{Each, Rules, top_holds}
use Rattle.design_valid_counts.specs.Counted.{AreCounted}
use Rattle.design_valid_counts.proofs.Cells.{library_counted, memory_counted, silent_counted}
use Rattle.design_valid_counts.proofs.Instances.{arrival_counted, room_inside, top_counted}
use Rattle.design_valid_counts.proofs.Wires.{connect_counted, inputs_counted}

abbrev Any : Statement → Type 0
Any s = Unit {0}

any : (ss : List Statement) → Each Any ss
any [] = tt
any (s ∷ ss) = (tt, any ss)

abbrev In : Standing → Made → Type 0
In here m = AreCounted m

counting : (ms : List Module) → Rules ms Any In
counting ms = record {
  known = λ name m is. any m.statements;
  connects = λ here a good. connect_counted here.place.owner here.scope a;
  cells = λ here c w good is. by_types (Keeps AreCounted) here.place here.scope c w (λ l found. library_counted here.place.owner here.scope l c) (memory_counted here.place here.scope c) (λ t. silent_counted here.place here.scope t c) is;
  arrives = λ around c m before behind good is may ran h. arrival_counted around.place around.scope c m before behind (room_inside ms around c before may) ran h;
  leaves = λ around c m before behind grew h within. within;
}

pub design_counted : (ms : List Module) (top : Module) (made : Made) → run (top_walk (λ scope. inputs scope top.statements) ms top) none_made ≡ Ok made → AreCounted made
design_counted ms top made ran =
    top_holds ms Any In (counting ms) (λ scope. inputs scope top.statements) top made (any top.statements)
    (λ between behind first given. inputs_counted (top_inside top none_made).scope top.statements between behind given (top_counted top between first)) ran
