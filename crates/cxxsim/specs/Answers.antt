-- What a call of the program leaves, by the status that it answers.
use Rattle.std.specs.Prelude.{◌≡◌, ◌⊎◌, ℕ, [], ◌∷◌, Bool, true, false, Option, Some, None, nat_eq, IsTrue}
use Rattle.std.specs.List.{list_any}
use Rattle.circuit.specs.declared.netlist.Circuit.{Circuit}
use Rattle.flat_stimulus.specs.Block.{Block}
use Rattle.outside.specs.Faults.{Rose}
use Rattle.outside.specs.Shelf.{File, IsKnown}
use Rattle.solo_session.specs.declared.solo.Ending.{Ending}
use Rattle.solo_session.specs.declared.solo.Ending.TheVariants as ending
use Rattle.cxxsim.specs.Outside.{HasFailed, HasGot, IsQuiet, Outside, named}
use Rattle.cxxsim.specs.Printed.{refusal_line, usage_line}
use Rattle.cxxsim.specs.Solo.{IsSentAtMost, IsSolo}
use Rattle.cxxsim.specs.Trace.{IsFault, IsRun, IsTrace, IsTraceBegun}
use Rattle.cxxsim.specs.declared.command.Command.{Command}
use Rattle.cxxsim.specs.declared.command.Mode.{Mode}
use Rattle.cxxsim.specs.declared.command.Mode.TheVariants as mode
use Rattle.cxxsim.specs.declared.refusal.Refusal.{Refusal}
use Rattle.cxxsim.specs.declared.refusal.Refusal.TheVariants as refusal
use Rattle.cxxsim.specs.declared.session.Closed.{Closed}

-- design and stimulus files have at most so many bytes
abbrev pub file_limit : ℕ
file_limit = 536870912

-- the statuses that a call can end with
abbrev pub is_status : ℕ → Bool
is_status n = list_any (nat_eq n) (0 ∷ 2 ∷ 3 ∷ 4 ∷ 5 ∷ 6 ∷ 8 ∷ 9 ∷ [])

-- ---- what a call has to go by: the outside before and after it, the most bytes of a file, and the two files

pub record Task : Type 0 where
  pub before : Outside
  pub now : Outside
  pub limit : ℕ
  pub design : File
  pub stimulus : File

-- the task of a command
abbrev pub task : ℕ → Outside → Outside → Command → Task
task limit before now c = record { before = before; now = now; limit = limit; design = named before.shelf.file c.design; stimulus = named before.shelf.file c.stimulus }

-- nothing was read from the input or written to output and log
abbrev pub IsIdle : Outside → Outside → Type 0
IsIdle before now = IsQuiet before.input now.input × IsQuiet before.out now.out × IsQuiet before.log now.log

-- a session was closed in this way
abbrev pub IsClosed : Task → Closed → Type 0
IsClosed t closed = IsSolo t.limit t.design t.stimulus t.before.input t.now.input t.before.out t.now.out t.before.log t.now.log closed

-- a session was closed that ended in this way
abbrev pub HasEnded : Task → Ending → Type 0
HasEnded t ends = (unsettled : Bool) × (logged : Bool) × IsClosed t (record { ending = ends; unsettled = unsettled; logged = logged })

-- ---- by mode

-- all that was asked for was done, up to a sample that does not settle or to the end: the trace was printed, or the client
-- was served and the log has got the whole history
abbrev pub IsDoneBy : Task → Bool → Mode → Type 0
IsDoneBy t unsettled mode.Trace = IsTrace t.limit t.design t.stimulus unsettled t.before.out.held t.now.out.held × IsQuiet t.before.input t.now.input × IsQuiet t.before.log t.now.log
IsDoneBy t unsettled mode.Solo = IsClosed t (record { ending = ending.Served; unsettled = unsettled; logged = true })

-- a read failed: of a file, or of the input in a session
abbrev pub IsUnreadBy : Task → Mode → Type 0
IsUnreadBy t mode.Trace = Rose t.before.shelf.read_faults t.now.shelf.read_faults × IsIdle t.before t.now
IsUnreadBy t mode.Solo = (Rose t.before.shelf.read_faults t.now.shelf.read_faults × IsIdle t.before t.now) ⊎ HasEnded t ending.InputFailed

-- the files have a run, and the output failed in its trace
pub record IsUntraced (t : Task) : Type 0 where
  pub run : (c : Circuit) × (b : Block) × IsRun t.limit t.design t.stimulus c b
  pub failed : HasFailed t.before.out t.now.out
  pub begun : IsTraceBegun t.limit t.design t.stimulus t.before.out.held t.now.out.held
  pub quiet_input : IsQuiet t.before.input t.now.input
  pub quiet_log : IsQuiet t.before.log t.now.log

-- a write failed where there is a run: of the trace, or in a session of the output or of the log
abbrev pub IsUnwrittenBy : Task → Mode → Type 0
IsUnwrittenBy t mode.Trace = IsUntraced t
IsUnwrittenBy t mode.Solo = HasEnded t ending.OutputFailed ⊎ ((unsettled : Bool) × IsClosed t (record { ending = ending.Served; unsettled = unsettled; logged = false }))

-- the client sent more bytes than are read
abbrev pub IsLimitedBy : Task → Mode → Type 0
IsLimitedBy t mode.Trace = ⊥
IsLimitedBy t mode.Solo = HasEnded t ending.Limit

-- what is left after want of memory
abbrev pub IsWantingBy : Task → Mode → Type 0
IsWantingBy t mode.Trace = IsTraceBegun t.limit t.design t.stimulus t.before.out.held t.now.out.held × IsQuiet t.before.input t.now.input × IsQuiet t.before.log t.now.log
IsWantingBy t mode.Solo =
    IsQuiet t.before.log t.now.log
    × (IsQuiet t.before.out t.now.out ⊎ ((c : Circuit) × (b : Block) × IsRun t.limit t.design t.stimulus c b × IsSentAtMost (record { circuit = c; block = b }) t.before.input t.now.input t.before.out t.now.out))

-- ---- by what the words ask for

abbrev pub IfAsked : Option Command → (Command → Type 0) → Type 0
IfAsked None P = ⊥
IfAsked (Some c) P = P c

-- a file has this fault
abbrev pub IsFaultOf : Task → Refusal → Type 0
IsFaultOf t r = IsFault t.limit t.design t.stimulus r

-- the shelf tells of the file that has the fault, and of the one that is read before it
abbrev pub IsKnownOf : Task → Refusal → Type 0
IsKnownOf t refusal.DesignTooLong = IsKnown t.design
IsKnownOf t refusal.DesignNotBuilt = IsKnown t.design
IsKnownOf t refusal.StimulusTooLong = IsKnown t.design × IsKnown t.stimulus
IsKnownOf t refusal.StimulusNotBuilt = IsKnown t.design × IsKnown t.stimulus

-- a file has a fault, and its line came to the log, or the log failed; nothing else was read or written
abbrev pub IsRefused : Task → Bool → Type 0
IsRefused t logged = (r : Refusal) × IsFaultOf t r × HasGot logged t.before.log t.now.log (refusal_line r) × IsQuiet t.before.input t.now.input × IsQuiet t.before.out t.now.out

-- the words do not fit, and the usage line came to the log, or the log failed; nothing else was read or written
abbrev pub IsMisused : Option Command → Outside → Outside → Bool → Type 0
IsMisused asked before now logged = (asked ≡ None) × HasGot logged before.log now.log usage_line × IsQuiet before.input now.input × IsQuiet before.out now.out

-- What a call leaves that the words asked for this command, or for none.
pub record IsAnswered (limit : ℕ) (asked : Option Command) (before now : Outside) (status : ℕ) : Type 0 where
  pub known : IsTrue (is_status status)
  -- 0 and 6: all was done, and at 6 there is a sample that does not settle
  pub done : status ≡ 0 → IfAsked asked (λ c. IsDoneBy (task limit before now c) false c.mode)
  pub unsettled : status ≡ 6 → IfAsked asked (λ c. IsDoneBy (task limit before now c) true c.mode)
  -- 2: exactly where the words do not fit; 5 in its place only where the log failed
  pub usage : status ≡ 2 → IsMisused asked before now true
  pub usage_comes : asked ≡ None → (status ≡ 2) ⊎ ((status ≡ 5) × IsMisused asked before now false)
  -- 3: only where a file could not be read, or the input in a session
  pub unread : status ≡ 3 → IfAsked asked (λ c. IsUnreadBy (task limit before now c) c.mode)
  -- 4: exactly where a file that was read has a fault; 5 in its place only where the log failed
  pub refused : status ≡ 4 → IfAsked asked (λ c. IsRefused (task limit before now c) true)
  pub refusal_comes : (c : Command) → asked ≡ Some c → (r : Refusal) → IsKnownOf (task limit before now c) r → IsFaultOf (task limit before now c) r
      → (status ≡ 4) ⊎ (status ≡ 3) ⊎ ((status ≡ 5) × IsRefused (task limit before now c) false) ⊎ (status ≡ 8)
  -- 5: only where the output failed, or the log
  pub unwritten : status ≡ 5 → IsMisused asked before now false ⊎ IfAsked asked (λ c. IsRefused (task limit before now c) false ⊎ IsUnwrittenBy (task limit before now c) c.mode)
  -- 8: want of memory
  pub wanting : status ≡ 8 → IfAsked asked (λ c. IsWantingBy (task limit before now c) c.mode)
  -- 9: the client of a session sent more bytes than are read
  pub limited : status ≡ 9 → IfAsked asked (λ c. IsLimitedBy (task limit before now c) c.mode)
