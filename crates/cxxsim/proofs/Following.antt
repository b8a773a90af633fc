-- What a run that was followed leaves is what the call with its files leaves.
use Rattle.std.proofs.Common.{◌≡◌, ℕ, List, Bool, Option, Some, Result, Ok, Err, refl, sym, ap, subst, inl, inr}
use Rattle.std.specs.Prelude.{IfOk, IsErrOf, OnErr, nat_lt}
use Rattle.std.specs.Io.KnownBytes.{append_known}
use Rattle.circuit.specs.Rounds.{run_length}
use Rattle.circuit.specs.declared.netlist.Circuit.{Circuit}
use Rattle.flat_run.specs.Run.{run_under}
use Rattle.flat_stimulus.specs.Block.{Block, sample_count}
use Rattle.outside.specs.Faults.{Rose}
use Rattle.outside.specs.Shelf.{File}
use Rattle.outside.specs.Sink.{IsSentInPart, SinkSeen}
use Rattle.sim_base.specs.declared.memory.NoMemory.{NoMemory}
use Rattle.cxxsim.specs.Answers.{IsIdle, IsWantingBy, Task, task}
use Rattle.cxxsim.specs.Outcome.{ServedAs, TracedAs, WentBy}
use Rattle.cxxsim.specs.Outside.{HasGot, IsQuiet, Outside, named}
use Rattle.cxxsim.specs.Printed.{refusal_line}
use Rattle.cxxsim.specs.Solo.{IsSentAtMost, IsSessionOf}
use Rattle.cxxsim.specs.Trace.{IsFault, IsRun}
use Rattle.cxxsim.specs.TraceText.{run_text}
use Rattle.cxxsim.specs.declared.command.Command.{Command}
use Rattle.cxxsim.specs.declared.command.Mode.{Mode}
use Rattle.cxxsim.specs.declared.command.Mode.TheVariants as mode
use Rattle.cxxsim.specs.declared.outcome.Outcome.TheVariants as outcome
use Rattle.cxxsim.specs.declared.refusal.Refusal.{Refusal}
use Rattle.cxxsim.specs.declared.session.Closed.{Closed}
use Rattle.cxxsim.specs.declared.tracing.TraceFault.{TraceFault}
use Rattle.cxxsim.specs.declared.tracing.TraceFault.TheVariants as fault

named_by : (file : List ℕ → File) (o : Option (List ℕ)) (d : List ℕ) → o ≡ Some d → file d ≡ named file o
named_by file o d e = sym (ap (named file) e)

-- the run of the files of a command
run_by : (limit : ℕ) (before now : Outside) (cmd : Command) (d s : List ℕ) (c : Circuit) (b : Block) → cmd.design ≡ Some d → cmd.stimulus ≡ Some s
    → IsRun limit (before.shelf.file d) (before.shelf.file s) c b → IsRun limit (task limit before now cmd).design (task limit before now cmd).stimulus c b
run_by limit before now cmd d s c b is_d is_s run =
    subst (λ (f : File). IsRun limit f (named before.shelf.file cmd.stimulus) c b) (named_by before.shelf.file cmd.design d is_d)
    (subst (λ (f : File). IsRun limit (before.shelf.file d) f c b) (named_by before.shelf.file cmd.stimulus s is_s) run)

-- what the trace of a run leaves of the output
pub record Traces (c : Circuit) (b : Block) (out out_now : SinkSeen) (traced : Result Bool TraceFault) : Type 0 where
  pub ends : IfOk traced (λ unsettled. unsettled ≡ nat_lt (run_length (run_under c b)) (sample_count b))
  pub printed : IfOk traced (λ _. out_now.held ≡ append_known out.held (run_text (run_under c b)))
  pub begun : IsSentInPart out.held out_now.held (run_text (run_under c b))
  pub write : IsErrOf traced fault.Write → Rose out.faults out_now.faults

traced_as : (t : Task) (c : Circuit) (b : Block) (traced : Result Bool TraceFault) → IsRun t.limit t.design t.stimulus c b → Traces c b t.before.out t.now.out traced
    → IsQuiet t.before.input t.now.input → IsQuiet t.before.log t.now.log → TracedAs t traced
traced_as t c b (Ok unsettled) run is input log = (record { circuit = c; block = b; is_run = run; ends = is.ends; printed = is.printed }, input, log)
traced_as t c b (Err fault.Write) run is input log =
    record { run = (c, b, run); failed = is.write refl; begun = inr (c, b, run, is.begun); quiet_input = input; quiet_log = log }
traced_as t c b (Err fault.NoMemory) run is input log = (inr (c, b, run, is.begun), input, log)

pub traced : (limit : ℕ) (before now : Outside) (cmd : Command) (d s : List ℕ) (c : Circuit) (b : Block) (r : Result Bool TraceFault) → cmd.design ≡ Some d → cmd.stimulus ≡ Some s
    → IsRun limit (before.shelf.file d) (before.shelf.file s) c b → Traces c b before.out now.out r → IsQuiet before.input now.input → IsQuiet before.log now.log → cmd.mode ≡ mode.Trace
    → WentBy (task limit before now cmd) cmd.mode (outcome.Traced r)
traced limit before now cmd d s c b r is_d is_s run is input log m = (m, traced_as (task limit before now cmd) c b r (run_by limit before now cmd d s c b is_d is_s run) is input log)

served_as : (t : Task) (c : Circuit) (b : Block) (r : Result Closed NoMemory) → IsRun t.limit t.design t.stimulus c b
    → IfOk r (IsSessionOf (record { circuit = c; block = b }) t.before.input t.now.input t.before.out t.now.out t.before.log t.now.log)
    → OnErr r (IsQuiet t.before.log t.now.log) → OnErr r (IsSentAtMost (record { circuit = c; block = b }) t.before.input t.now.input t.before.out t.now.out) → ServedAs t r
served_as t c b (Ok k) run is quiet sent = record { circuit = c; block = b; is_run = run; session = is }
served_as t c b (Err e) run is quiet sent = (quiet, inr (c, b, run, sent))

pub served : (limit : ℕ) (before now : Outside) (cmd : Command) (d s : List ℕ) (c : Circuit) (b : Block) (r : Result Closed NoMemory) → cmd.design ≡ Some d → cmd.stimulus ≡ Some s
    → IsRun limit (before.shelf.file d) (before.shelf.file s) c b
    → IfOk r (IsSessionOf (record { circuit = c; block = b }) before.input now.input before.out now.out before.log now.log)
    → OnErr r (IsQuiet before.log now.log) → OnErr r (IsSentAtMost (record { circuit = c; block = b }) before.input now.input before.out now.out) → cmd.mode ≡ mode.Solo
    → WentBy (task limit before now cmd) cmd.mode (outcome.Served r)
served limit before now cmd d s c b r is_d is_s run is quiet sent m = (m, served_as (task limit before now cmd) c b r (run_by limit before now cmd d s c b is_d is_s run) is quiet sent)

pub refused : (limit : ℕ) (before now : Outside) (cmd : Command) (d s : List ℕ) (r : Refusal) (logged : Bool) → cmd.design ≡ Some d → cmd.stimulus ≡ Some s
    → IsFault limit (before.shelf.file d) (before.shelf.file s) r → HasGot logged before.log now.log (refusal_line r) → IsQuiet before.input now.input → IsQuiet before.out now.out → WentBy (task limit before now cmd) cmd.mode (outcome.Refused r logged)
refused limit before now cmd d s r logged is_d is_s fault got input out = (
  subst (λ (f : File). IsFault limit f (named before.shelf.file cmd.stimulus) r) (named_by before.shelf.file cmd.design d is_d)
      (subst (λ (f : File). IsFault limit (before.shelf.file d) f r) (named_by before.shelf.file cmd.stimulus s is_s) fault),
  got,
  input,
  out,
)

-- memory that is wanting before anything is read or written
pub wanting_by : (t : Task) (m : Mode) → IsIdle t.before t.now → IsWantingBy t m
wanting_by t mode.Trace idle = (inl (ap (λ (o : SinkSeen). o.held) idle.1), idle.0, idle.2)
wanting_by t mode.Solo idle = (idle.2, inl idle.1)
