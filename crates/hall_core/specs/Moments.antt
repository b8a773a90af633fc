-- What a history says of the run's samples, its clients left aside.
use Rattle.std.specs.Prelude.{ℕ, ◌+◌, Bool, true, not, ◌&&◌, ◌||◌, nat_lt, if◌then◌else◌}
use Rattle.hall_core.specs.declared.entry.Entry.{Entry}
use Rattle.hall_core.specs.declared.entry.Entry.TheVariants as entry
use Rattle.hall_core.specs.declared.entry.Act.TheVariants as act
use Rattle.hall_core.specs.declared.entry.Goal.{Goal}
use Rattle.hall_core.specs.declared.entry.Goal.TheVariants as goal
use Rattle.hall_core.specs.Replay.{Replayed, is_goal}

-- how many samples are recorded, how far they are to be, and whether the next one was found not to settle
pub record Moment : Type 0 where
  pub n : ℕ
  pub goal : Goal
  pub unsettled : Bool

abbrev pub moment_of : Replayed → Moment
moment_of s = record { n = s.n; goal = s.goal; unsettled = s.unsettled }

-- the goal after a run up to so many samples is asked for
abbrev pub goal_after : Moment → ℕ → Goal → Goal
goal_after m g asked = if nat_lt m.n g && not m.unsettled then asked else goal.Hold

-- the moment after one entry more
abbrev pub step : Moment → Entry → Moment
step m (entry.Open c) = m
step m (entry.Packet c act.Look) = m
step m (entry.Packet c (act.Run g kinds)) = record m { goal = goal_after m g (goal.To g kinds) }
step m (entry.Packet c act.Pause) = record m { goal = goal.Hold }
step m (entry.Record k hit) = record m { n = m.n + k; goal = if hit || is_goal m.goal (m.n + k) then goal.Hold else m.goal }
step m entry.Unsettled = record m { goal = goal.Hold; unsettled = true }
step m (entry.Close c why) = m
step m entry.End = record m { goal = goal.Over }
