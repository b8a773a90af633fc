-- The inputs of a whole design are shown once.
use Rattle.std.proofs.Common.{◌≡◌, List, [], ◌∷◌, Ok, true}
use Rattle.circuit.specs.Valid.{inputs_fit}
use Rattle.rtlil_tree.specs.declared.module.Module.{Module}
use Rattle.rtlil_tree.specs.declared.module.Statement.{Statement}
use Rattle.design_parts.specs.Parts.{Made, none_made, run}
use Rattle.design_top.specs.Inputs.{inputs}
use Rattle.design_walk.specs.Walks.{Standing, top_walk}
use Rattle.design_valid.specs.Keeps.{Keeps}
use Rattle.design_valid_walk.proofs.Typed.{by_types}
use Rattle.design_valid_walk.proofs.Walking.{Each, Rules, top_holds}
use Rattle.design_valid_inputs.proofs.Counts.{InputsFit}
use Rattle.design_valid_inputs.proofs.Staying.{arrival_stays, connect_stays, library_stays, memory_stays, silent_stays}
use Rattle.design_valid_inputs.proofs.Top.{top_inputs}

abbrev Any : Statement → Type 0
Any s = Unit {0}

any : (ss : List Statement) → Each Any ss
any [] = tt
any (s ∷ ss) = (tt, any ss)

abbrev In : Standing → Made → Type 0
In here m = InputsFit m

staying : (ms : List Module) → Rules ms Any In
staying ms = record {
  known = λ name m is. any m.statements;
  connects = λ here a good. connect_stays here.place.owner here.scope a;
  cells = λ here c w good is. by_types (Keeps InputsFit) here.place here.scope c w (λ l found. library_stays here.place.owner here.scope l c) (memory_stays here.place here.scope c) (λ t. silent_stays here.place here.scope t c) is;
  arrives = λ around c m before behind good is may ran h. arrival_stays around.place around.scope c m before behind ran h;
  leaves = λ around c m before behind grew h within. within;
}

pub design_inputs : (ms : List Module) (top : Module) (made : Made) → run (top_walk (λ scope. inputs scope top.statements) ms top) none_made ≡ Ok made → inputs_fit made.nets made.items made.inputs ≡ true
design_inputs ms top made ran = top_holds ms Any In (staying ms) (λ scope. inputs scope top.statements) top made (any top.statements) (λ between behind first given. top_inputs top between behind first given) ran
