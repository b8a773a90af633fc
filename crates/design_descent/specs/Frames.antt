-- The instances that are open in a walk, one inside another, the innermost first, and what they still give.
use Rattle.std.specs.Prelude.{◌≡◌, ℕ, ◌-◌, List, [], ◌∷◌, ◌++◌, length, drop, false, Bool, Some, bytes_eq}
use Rattle.std.specs.List.{list_any}
use Rattle.rtlil_tree.specs.declared.module.Module.{Module}
use Rattle.design_parts.specs.Parts.{Walk, nothing, ◌>>◌}
use Rattle.design_walk.specs.Kept.{AreOpen, number_named, seen_place}
use Rattle.design_walk.specs.Walks.{Standing, steps, walk}
use Rattle.design_descent.specs.declared.frame.Frame.{Frame}

-- the modules that the innermost one stands in, with its own
abbrev pub names_of : List Frame → List (List ℕ)
names_of [] = []
names_of (f ∷ fs) = names_of fs ++ f.unit.now.name ∷ []

-- an instance as its statements see it
abbrev pub standing : List (List ℕ) → Frame → Standing
standing names f = record { ancestors = names; place = seen_place f.place; scope = f.wires }

-- what it still gives: its statements from the next one on
abbrev pub left : ℕ → List Module → List (List ℕ) → Frame → Walk
left depth ms names f = steps (walk depth ms) ms (standing names f) (drop f.next f.clashes) (drop f.next f.unit.now.statements)

-- what all of them still give; in each so many may stand as there are modules but those around it
unfoldable pub pending : List Module → List Frame → Walk
pending ms [] = nothing
pending ms (f ∷ fs) = left (length ms - length fs) ms (names_of (f ∷ fs)) f >> pending ms fs

-- an instance has the number of its module, which is none of those around it
pub record IsInside (ms : List Module) (names : List (List ℕ)) (f : Frame) : Type 0 where
  pub number : number_named ms f.unit.now.name ≡ Some f.number
  pub apart : list_any (bytes_eq f.unit.now.name) names ≡ false

abbrev pub AreNested : List Module → List Frame → Type 0
AreNested ms [] = Unit {0}
AreNested ms (f ∷ fs) = IsInside ms (names_of fs) f × AreNested ms fs

-- what holds between two turns: the flags are those of the modules that are open
pub record IsDescent (ms : List Module) (flags : List Bool) (fs : List Frame) : Type 0 where
  pub nested : AreNested ms fs
  pub flagged : AreOpen flags ms (names_of fs)
  pub sized : length flags ≡ length ms
