-- What a history says: how many samples are recorded, how far they are to be recorded, and which clients are open.
use Rattle.std.specs.Prelude.{ℕ, ◌+◌, ◌==◌, nat_lt, Bool, true, false, not, ◌&&◌, ◌||◌, List, [], ◌∷◌, ◌++◌, Option, Some, None, if◌then◌else◌, fold, take, slice_get, slice_set}
use Rattle.hall_core.specs.declared.entry.Entry.{Entry}
use Rattle.hall_core.specs.declared.entry.Entry.TheVariants as entry
use Rattle.hall_core.specs.declared.entry.Act.TheVariants as act
use Rattle.hall_core.specs.declared.entry.Goal.{Goal}
use Rattle.hall_core.specs.declared.entry.Goal.TheVariants as goal

-- what some entries say
pub record Replayed : Type 0 where
  -- the number of samples recorded
  pub n : ℕ
  pub goal : Goal
  -- whether there was Unsettled
  pub unsettled : Bool
  -- one for each client opened, in the order of their numbers: whether it is open
  pub clients : List Bool

-- what no entries say
abbrev pub unbegun : Replayed
unbegun = record { n = 0; goal = goal.Hold; unsettled = false; clients = [] }

-- a run up to m samples has something to do
abbrev pub runs_on : Replayed → ℕ → Bool
runs_on s m = nat_lt s.n m && not s.unsettled

abbrev pub is_goal : Goal → ℕ → Bool
is_goal goal.Hold n = false
is_goal (goal.To g kinds) n = n == g
is_goal goal.Over n = false

-- whether the entry reaches a goal, or is Unsettled
abbrev pub reaches : Replayed → Entry → Bool
reaches s (entry.Open c) = false
reaches s (entry.Packet c act.Look) = false
reaches s (entry.Packet c (act.Run m kinds)) = not (runs_on s m)
reaches s (entry.Packet c act.Pause) = false
reaches s (entry.Record m hit) = hit || is_goal s.goal (s.n + m)
reaches s entry.Unsettled = true
reaches s (entry.Close c why) = false
reaches s entry.End = false

-- what stands after one entry more
abbrev pub after : Replayed → Entry → Replayed
after s (entry.Open c) = record s { clients = s.clients ++ true ∷ [] }
after s (entry.Packet c act.Look) = s
after s (entry.Packet c (act.Run m kinds)) = record s { goal = if runs_on s m then goal.To m kinds else goal.Hold }
after s (entry.Packet c act.Pause) = record s { goal = goal.Hold }
after s (entry.Record m hit) = record s { n = s.n + m; goal = if reaches s (entry.Record m hit) then goal.Hold else s.goal }
after s entry.Unsettled = record s { goal = goal.Hold; unsettled = true }
after s (entry.Close c why) = record s { clients = slice_set s.clients c false }
after s entry.End = record s { goal = goal.Over }

-- what stands after all entries of a history
abbrev pub replay : List Entry → Replayed
replay history = fold after unbegun history

abbrev pub reaches_there : Replayed → Option Entry → Bool
reaches_there s None = false
reaches_there s (Some e) = reaches s e

-- whether entry i of a history reaches a goal, or is Unsettled
abbrev pub reached : List Entry → ℕ → Bool
reached history i = reaches_there (replay (take i history)) (slice_get history i)
