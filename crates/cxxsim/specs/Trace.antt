-- What a trace of two files is.
use Rattle.std.specs.Prelude.{◌≡◌, ◌⊎◌, ℕ, ◌≤◌, List, ◌++◌, length, Bool, nat_lt, Option, Some, None, option_and_then}
use Rattle.std.specs.Io.KnownBytes.{append_known}
use Rattle.circuit.specs.Rounds.{run_length}
use Rattle.circuit.specs.declared.netlist.Circuit.{Circuit}
use Rattle.flat_text.specs.Module.{module_of}
use Rattle.flat_design.specs.Circuit.{circuit_of}
use Rattle.flat_run.specs.Run.{run_under}
use Rattle.flat_stimulus.specs.Block.{Block, sample_count}
use Rattle.flat_stimulus.specs.Text.{block_of}
use Rattle.outside.specs.Shelf.{File, IsOf, IsLonger}
use Rattle.outside.specs.Sink.{IsSentInPart}
use Rattle.cxxsim.specs.TraceText.{run_text}
use Rattle.cxxsim.specs.declared.refusal.Refusal.{Refusal}
use Rattle.cxxsim.specs.declared.refusal.Refusal.TheVariants as refusal

-- the circuit of a design's text
abbrev pub design_circuit : List ℕ → Option Circuit
design_circuit text = option_and_then circuit_of (module_of text)

-- the file may have this text, which is not longer than the limit
abbrev pub MayHold : ℕ → File → List ℕ → Type 0
MayHold limit file text = IsOf file text × (length text ≤ limit)

-- this may be the circuit of the file
pub record IsDesign (limit : ℕ) (file : File) (c : Circuit) : Type 0 where
  pub text : List ℕ
  pub held : MayHold limit file text
  pub read : design_circuit text ≡ Some c

-- this may be the block of the file, for that circuit
pub record IsStimulus (limit : ℕ) (file : File) (c : Circuit) (b : Block) : Type 0 where
  pub text : List ℕ
  pub held : MayHold limit file text
  pub read : block_of text c ≡ Some b

-- this may be the run of the two files
pub record IsRun (limit : ℕ) (design stimulus : File) (c : Circuit) (b : Block) : Type 0 where
  pub circuit : IsDesign limit design c
  pub block : IsStimulus limit stimulus c b

-- the trace of the two files came behind what was held, and says whether a sample did not settle
pub record IsTrace (limit : ℕ) (design stimulus : File) (unsettled : Bool) (before now : Option (List ℕ)) : Type 0 where
  pub circuit : Circuit
  pub block : Block
  pub is_run : IsRun limit design stimulus circuit block
  pub ends : unsettled ≡ nat_lt (run_length (run_under circuit block)) (sample_count block)
  pub printed : now ≡ append_known before (run_text (run_under circuit block))

-- a beginning of the text came behind what was held, and so much of the text is left
pub record HasLeft (before now : Option (List ℕ)) (text left : List ℕ) : Type 0 where
  pub gone : List ℕ
  pub parts : text ≡ gone ++ left
  pub held : now ≡ append_known before gone

-- nothing came behind what was held, or a beginning of the trace of the two files
abbrev pub IsTraceBegun : ℕ → File → File → Option (List ℕ) → Option (List ℕ) → Type 0
IsTraceBegun limit design stimulus before now =
    (now ≡ before) ⊎ ((c : Circuit) × (b : Block) × IsRun limit design stimulus c b × IsSentInPart before now (run_text (run_under c b)))

-- a text of the file that is not in the form that is read
pub record HasNoDesign (limit : ℕ) (file : File) : Type 0 where
  pub text : List ℕ
  pub held : MayHold limit file text
  pub unread : design_circuit text ≡ None

pub record HasNoBlock (limit : ℕ) (file : File) (c : Circuit) : Type 0 where
  pub text : List ℕ
  pub held : MayHold limit file text
  pub unread : block_of text c ≡ None

pub record HasNoStimulus (limit : ℕ) (design stimulus : File) : Type 0 where
  pub circuit : Circuit
  pub is_design : IsDesign limit design circuit
  pub unread : HasNoBlock limit stimulus circuit

pub record HasLongStimulus (limit : ℕ) (design stimulus : File) : Type 0 where
  pub circuit : Circuit
  pub is_design : IsDesign limit design circuit
  pub longer : IsLonger stimulus limit

-- the fault of a file for which a trace is refused
abbrev pub IsFault : ℕ → File → File → Refusal → Type 0
IsFault limit design stimulus refusal.DesignTooLong = IsLonger design limit
IsFault limit design stimulus refusal.DesignNotBuilt = HasNoDesign limit design
IsFault limit design stimulus refusal.StimulusTooLong = HasLongStimulus limit design stimulus
IsFault limit design stimulus refusal.StimulusNotBuilt = HasNoStimulus limit design stimulus
