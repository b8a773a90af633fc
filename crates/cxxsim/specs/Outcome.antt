-- How a call with a command ends, with what it leaves and its status.
use Rattle.std.specs.Prelude.{◌≡◌, ℕ, Bool, Result, Ok, Err, if◌then◌else◌}
use Rattle.outside.specs.Faults.{Rose}
use Rattle.sim_base.specs.declared.memory.NoMemory.{NoMemory}
use Rattle.solo_session.specs.declared.solo.Ending.{Ending}
use Rattle.solo_session.specs.declared.solo.Ending.TheVariants as ending
use Rattle.cxxsim.specs.Answers.{IsClosed, IsDoneBy, IsFaultOf, IsIdle, IsUntraced, IsWantingBy, Task}
use Rattle.cxxsim.specs.Outside.{HasGot, IsQuiet}
use Rattle.cxxsim.specs.Printed.{refusal_line}
use Rattle.cxxsim.specs.declared.command.Mode.{Mode}
use Rattle.cxxsim.specs.declared.command.Mode.TheVariants as mode
use Rattle.cxxsim.specs.declared.outcome.Outcome.{Outcome}
use Rattle.cxxsim.specs.declared.outcome.Outcome.TheVariants as outcome
use Rattle.cxxsim.specs.declared.session.Closed.{Closed}
use Rattle.cxxsim.specs.declared.tracing.TraceFault.{TraceFault}
use Rattle.cxxsim.specs.declared.tracing.TraceFault.TheVariants as fault

-- ---- statuses

abbrev pub if_logged : Bool → ℕ → ℕ
if_logged logged status = if logged then status else 5

abbrev pub if_settled : Bool → ℕ
if_settled unsettled = if unsettled then 6 else 0

abbrev pub ended_status : Ending → Bool → Bool → ℕ
ended_status ending.Served unsettled logged = if_logged logged (if_settled unsettled)
ended_status ending.Limit unsettled logged = 9
ended_status ending.InputFailed unsettled logged = 3
ended_status ending.OutputFailed unsettled logged = 5

abbrev pub closed_status : Closed → ℕ
closed_status c = ended_status c.ending c.unsettled c.logged

abbrev pub traced_status : Result Bool TraceFault → ℕ
traced_status (Ok unsettled) = if_settled unsettled
traced_status (Err fault.Write) = 5
traced_status (Err fault.NoMemory) = 8

abbrev pub served_status : Result Closed NoMemory → ℕ
served_status (Ok c) = closed_status c
served_status (Err e) = 8

abbrev pub status_of : Outcome → ℕ
status_of outcome.Unread = 3
status_of (outcome.Refused r logged) = if_logged logged 4
status_of (outcome.Traced traced) = traced_status traced
status_of (outcome.Served served) = served_status served
status_of outcome.NoMemory = 8

-- ---- what is left

-- what a trace leaves
abbrev pub TracedAs : Task → Result Bool TraceFault → Type 0
TracedAs t (Ok unsettled) = IsDoneBy t unsettled mode.Trace
TracedAs t (Err fault.Write) = IsUntraced t
TracedAs t (Err fault.NoMemory) = IsWantingBy t mode.Trace

-- what a session leaves
abbrev pub ServedAs : Task → Result Closed NoMemory → Type 0
ServedAs t (Ok c) = IsClosed t c
ServedAs t (Err e) = IsWantingBy t mode.Solo

-- what a call with a command leaves
abbrev pub WentBy : Task → Mode → Outcome → Type 0
WentBy t m outcome.Unread = Rose t.before.shelf.read_faults t.now.shelf.read_faults × IsIdle t.before t.now
WentBy t m (outcome.Refused r logged) = IsFaultOf t r × HasGot logged t.before.log t.now.log (refusal_line r) × IsQuiet t.before.input t.now.input × IsQuiet t.before.out t.now.out
WentBy t m (outcome.Traced traced) = (m ≡ mode.Trace) × TracedAs t traced
WentBy t m (outcome.Served served) = (m ≡ mode.Solo) × ServedAs t served
WentBy t m outcome.NoMemory = IsWantingBy t m
