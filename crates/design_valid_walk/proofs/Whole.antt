-- What a whole design gives fits together.
use Rattle.std.proofs.Common.{◌≡◌, List, [], ◌∷◌, Ok, refl}
use Rattle.rtlil_tree.specs.declared.module.Module.{Module}
use Rattle.rtlil_tree.specs.declared.module.Statement.{Statement}
use Rattle.design_parts.specs.Parts.{Made, none_made, run}
use Rattle.design_top.specs.Inputs.{inputs}
use Rattle.design_walk.specs.Walks.{Standing, top_inside, top_walk}
use Rattle.design_valid.specs.Keeps.{Keeps}
use Rattle.design_valid.specs.Wired.{IsWired, IsWiredIn}
use Rattle.design_valid.proofs.Wires.{keeps_connect}
use Rattle.design_valid_cells.proofs.Library.{keeps_library_cell}
use Rattle.design_valid_memory.proofs.Memory.{keeps_memory}
use Rattle.design_valid_memory.proofs.Silent.{keeps_silent_cell}
use Rattle.design_valid_walk.proofs.Arriving.{arrived, stands_behind, top_arrived}
use Rattle.design_valid_walk.proofs.Inputs.{keeps_inputs}
use Rattle.design_valid_walk.proofs.Typed.{by_types}
use Rattle.design_valid_walk.proofs.Walking.{Each, Rules, top_holds}

abbrev Any : Statement → Type 0
Any s = Unit {0}

any : (ss : List Statement) → Each Any ss
any [] = tt
any (s ∷ ss) = (tt, any ss)

abbrev In : Standing → Made → Type 0
In here m = IsWiredIn here.scope m

wiring : (ms : List Module) → Rules ms Any In
wiring ms = record {
  known = λ name m is. any m.statements;
  connects = λ here a good. keeps_connect here.place.owner here.scope a;
  cells = λ here c w good is. by_types (Keeps (IsWiredIn here.scope)) here.place here.scope c w (λ l found. keeps_library_cell here.place.owner here.scope c.kind l c found) (keeps_memory here.place here.scope c) (λ t. keeps_silent_cell here.place here.scope t c) is;
  arrives = λ around c m before behind good is may ran h. arrived around.place around.scope c m before behind ran h;
  leaves = λ around c m before behind grew h within. record { wired = within.wired; stands = stands_behind around.scope before behind grew h.stands };
}

none_wired : IsWired none_made
none_wired = record { nets = refl; drives = refl; cells = refl; regs = refl; mems = refl; diags = refl }

pub design_wired : (ms : List Module) (top : Module) (made : Made) → run (top_walk (λ scope. inputs scope top.statements) ms top) none_made ≡ Ok made → IsWired made
design_wired ms top made ran =
    (top_holds ms Any In (wiring ms) (λ scope. inputs scope top.statements) top made (any top.statements)
    (λ between behind first given. keeps_inputs (top_inside top none_made).scope top.statements between behind given (top_arrived top none_made between first none_wired)) ran).wired
