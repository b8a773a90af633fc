-- What a session with one client leaves.
use Rattle.std.specs.Prelude.{◌≡◌, ◌⊎◌, ℕ, ◌≤◌, List, [], ◌∷◌}
use Rattle.circuit.specs.Rounds.{run_length}
use Rattle.circuit.specs.declared.netlist.Circuit.{Circuit}
use Rattle.flat_run.specs.Run.{Sampled, run_of}
use Rattle.flat_stimulus.specs.Block.{Block}
use Rattle.hall_core.specs.Facts.{facts_of}
use Rattle.hall_core.specs.Legal.{Legal}
use Rattle.hall_core.specs.LogText.{log_text}
use Rattle.hall_core.specs.Replay.{replay}
use Rattle.hall_core.specs.declared.entry.Entry.{Entry}
use Rattle.hall_core.specs.declared.entry.Entry.TheVariants as entry
use Rattle.outside.specs.Shelf.{File}
use Rattle.outside.specs.Sink.{SinkSeen}
use Rattle.outside.specs.Source.{SourceSeen}
use Rattle.solo_session.specs.Solo.{IsCause, IsEnded, IsWanting, outset_of}
use Rattle.solo_session.specs.declared.solo.Ending.{Ending}
use Rattle.solo_session.specs.declared.solo.Ending.TheVariants as ending
use Rattle.cxxsim.specs.Outside.{HasGot, IsQuiet}
use Rattle.cxxsim.specs.Trace.{IsRun}
use Rattle.cxxsim.specs.declared.session.Closed.{Closed}

-- sample 0 does not settle: nobody is served, and nothing was read or sent
pub record IsUnserved (run : Sampled) (input input_now : SourceSeen) (out out_now : SinkSeen) (history : List Entry) (ends : Ending) : Type 0 where
  pub unsettled : run_length (run_of run) ≡ 0
  pub is : history ≡ entry.Unsettled ∷ entry.End ∷ []
  pub ended : ends ≡ ending.Served
  pub quiet_input : IsQuiet input input_now
  pub quiet_out : IsQuiet out out_now

-- sample 0 settles, and the client was served
pub record IsServed (run : Sampled) (input input_now : SourceSeen) (out out_now : SinkSeen) (history : List Entry) (ends : Ending) : Type 0 where
  pub settled : 1 ≤ run_length (run_of run)
  pub ended : IsEnded (outset_of (run_of run) input out) input_now.left out_now.held history ends

-- the history of a session, and what was read and sent, by how it ended
pub record IsHeld (run : Sampled) (input input_now : SourceSeen) (out out_now : SinkSeen) (history : List Entry) (ends : Ending) : Type 0 where
  pub either : IsUnserved run input input_now out out_now history ends ⊎ IsServed run input input_now out out_now history ends
  pub legal : Legal (facts_of (run_of run)) history
  pub cause : IsCause ends input input_now out out_now

-- after want of memory: nothing was sent, or a beginning of what the history of the client's bytes says
abbrev pub IsSentAtMost : Sampled → SourceSeen → SourceSeen → SinkSeen → SinkSeen → Type 0
IsSentAtMost run input input_now out out_now = IsQuiet out out_now ⊎ IsWanting (outset_of (run_of run) input out) out_now.held

-- the log has got the text of the history of a session
pub record IsSessionOf (run : Sampled) (input input_now : SourceSeen) (out out_now log log_now : SinkSeen) (closed : Closed) : Type 0 where
  pub history : List Entry
  pub held : IsHeld run input input_now out out_now history closed.ending
  pub unsettled : closed.unsettled ≡ (replay history).unsettled
  pub logged : HasGot closed.logged log log_now (log_text history)

-- a session over the run of two files was closed
pub record IsSolo (limit : ℕ) (design stimulus : File) (input input_now : SourceSeen) (out out_now log log_now : SinkSeen) (closed : Closed) : Type 0 where
  pub circuit : Circuit
  pub block : Block
  pub is_run : IsRun limit design stimulus circuit block
  pub session : IsSessionOf (record { circuit = circuit; block = block }) input input_now out out_now log log_now closed
