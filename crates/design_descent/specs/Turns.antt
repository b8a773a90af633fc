-- What a turn of the walk does.
use Rattle.std.specs.Prelude.{◌≡◌, ℕ, ◌<◌, List, [], ◌∷◌, ◌++◌, Bool, Option, Some, None, Result, Ok, Err}
use Rattle.rtlil_tree.specs.declared.module.Module.{Module}
use Rattle.rtlil_tree.specs.declared.module.Statement.{Statement}
use Rattle.rtlil_tree.specs.declared.module.Statement.TheVariants as statement
use Rattle.design_parts.specs.Parts.{Fails, Made, Walk, run}
use Rattle.design_parts.specs.declared.refusal.Refusal.{Refusal}
use Rattle.design_walk.specs.Modules.{module_named}
use Rattle.design_descent.specs.Frames.{IsDescent, IsInside, left, pending}
use Rattle.design_descent.specs.Work.{work}
use Rattle.design_descent.specs.declared.frame.Frame.{Frame}

-- a statement is a cell of this module
abbrev pub LeadsInto : List Module → Statement → Module → Type 0
LeadsInto ms (statement.Cell c) m = module_named ms c.kind ≡ Some m
LeadsInto ms _ m = ⊥

-- a statement was gone into: what is left of it, which is this part where so many may stand within the instance that
-- it leads into, is what that instance gives
pub record IsGoneInto (ms : List Module) (names : List (List ℕ)) (part : ℕ → Walk) (s : Statement) (old : Made) (g : Frame) (new : Made) : Type 0 where
  pub gives : (depth : ℕ) → run (part depth) old ≡ run (left depth ms (names ++ g.unit.now.name ∷ []) g) new
  pub leads : LeadsInto ms s g.unit.now
  pub inside : IsInside ms names g
  pub first : g.next ≡ 0

-- a statement was taken: it has a fault, or it gave what it gives, or leads into an instance
abbrev pub Takes : List Module → List (List ℕ) → (ℕ → Walk) → Statement → Made → Result (Option Frame) Refusal → Made → Type 0
Takes ms names part s old (Ok None) new = (depth : ℕ) → run (part depth) old ≡ Ok new
Takes ms names part s old (Ok (Some g)) new = IsGoneInto ms names part s old g new
Takes ms names part s old (Err e) new = (depth : ℕ) → Fails e (run (part depth) old)

-- what is left gives the same from here on, and is less
pub record IsTurn (ms : List Module) (fs : List Frame) (old : Made) (flags : List Bool) (gs : List Frame) (new : Made) : Type 0 where
  pub descent : IsDescent ms flags gs
  pub gives : run (pending ms fs) old ≡ run (pending ms gs) new
  pub less : work ms gs < work ms fs

abbrev pub Turns : {X : Type 0} → List Module → List Frame → Made → Result X Refusal → List Bool → List Frame → Made → Type 0
Turns ms fs old (Ok _) flags gs new = IsTurn ms fs old flags gs new
Turns ms fs old (Err e) flags gs new = Fails e (run (pending ms fs) old)
