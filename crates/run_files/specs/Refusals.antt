-- Why the files of a run are refused.
use Rattle.std.specs.Prelude.{◌≡◌, ◌⊎◌, ℕ, List, Option, Err}
use Rattle.circuit.specs.declared.fault.DesignFault.{DesignFault}
use Rattle.circuit.specs.declared.netlist.Circuit.{Circuit}
use Rattle.design_load.specs.Loaded.{RefusesDesign, made_in}
use Rattle.design_load.specs.declared.fault.LoadFault.{LoadFault}
use Rattle.design_load.specs.declared.fault.LoadFault.TheVariants as load
use Rattle.outside.specs.Shelf.{File, IsKnown, IsLonger}
use Rattle.rtlil_lexer.specs.declared.fault.TextFault.{TextFault}
use Rattle.stimulus.specs.Reading.{course_of}
use Rattle.stimulus_text.specs.declared.fault.StimFault.{StimFault}
use Rattle.stimulus_text.specs.declared.fault.StimFault.TheVariants as stim
use Rattle.stimulus_text.specs.declared.fault.StimFaultKind.{StimFaultKind}
use Rattle.run_files.specs.Files.{Files, IsDesign, MayHold}
use Rattle.run_files.specs.declared.fault.FileFault.{FileFault}
use Rattle.run_files.specs.declared.fault.FileFault.TheVariants as fault
use Rattle.run_files.specs.declared.refusal.Refusal.{Refusal}
use Rattle.run_files.specs.declared.refusal.Refusal.TheVariants as refusal

-- ---- the design's file

-- a text of the file has this fault
pub record HasTextFault (limit : ℕ) (file : File) (top : Option (List ℕ)) (f : TextFault) : Type 0 where
  pub text : List ℕ
  pub held : MayHold limit file text
  pub first : made_in text top ≡ Err (load.Text f)

-- a text of the file says a design with this fault
pub record HasDesignFault (limit : ℕ) (file : File) (top : Option (List ℕ)) (f : DesignFault) : Type 0 where
  pub text : List ℕ
  pub held : MayHold limit file text
  pub first : RefusesDesign f (made_in text top)

-- for which the design's file is refused
abbrev pub IsDesignFault : ℕ → File → Option (List ℕ) → Refusal → Type 0
IsDesignFault limit file top refusal.DesignTooLong = IsLonger file limit
IsDesignFault limit file top (refusal.Text f) = HasTextFault limit file top f
IsDesignFault limit file top (refusal.Design f) = HasDesignFault limit file top f
IsDesignFault limit file top refusal.StimulusTooLong = ⊥
IsDesignFault limit file top (refusal.Stimulus kind line) = ⊥

-- ---- the stimulus' file

-- a text of the file has this fault, as a stimulus for the circuit
pub record HasStimulusFault (limit : ℕ) (file : File) (c : Circuit) (kind : StimFaultKind) (line : ℕ) : Type 0 where
  pub text : List ℕ
  pub held : MayHold limit file text
  pub first : course_of text c ≡ Err (stim.At kind line)

-- for which the stimulus' file is refused
abbrev pub IsStimulusFault : ℕ → File → Circuit → Refusal → Type 0
IsStimulusFault limit file c refusal.DesignTooLong = ⊥
IsStimulusFault limit file c (refusal.Text f) = ⊥
IsStimulusFault limit file c (refusal.Design f) = ⊥
IsStimulusFault limit file c refusal.StimulusTooLong = IsLonger file limit
IsStimulusFault limit file c (refusal.Stimulus kind line) = HasStimulusFault limit file c kind line

-- a circuit of the design's file, for which the stimulus' file is refused
abbrev pub HasNoStimulus : ℕ → Files → Refusal → Type 0
HasNoStimulus limit files r = (c : Circuit) × IsDesign limit files.design files.top c × IsStimulusFault limit files.stimulus c r

-- ---- both

-- for which the files of a run are refused: the design's file comes first
abbrev pub IsFault : ℕ → Files → Refusal → Type 0
IsFault limit files r = IsDesignFault limit files.design files.top r ⊎ HasNoStimulus limit files r

-- the same, where the shelf tells of the file that has the fault, and of the one that is read before it
abbrev pub IsKnownFault : ℕ → Files → Refusal → Type 0
IsKnownFault limit files r = (IsKnown files.design × IsDesignFault limit files.design files.top r) ⊎ (IsKnown files.design × IsKnown files.stimulus × HasNoStimulus limit files r)

-- ---- what the code does

-- the fault that is answered for one of the design, and for one of the stimulus
abbrev pub design_refused : LoadFault → FileFault
design_refused (load.Text f) = fault.Refused (refusal.Text f)
design_refused (load.Design f) = fault.Refused (refusal.Design f)
design_refused load.NoMemory = fault.NoMemory

abbrev pub stimulus_refused : StimFault → FileFault
stimulus_refused (stim.At kind line) = fault.Refused (refusal.Stimulus kind line)
stimulus_refused stim.NoMemory = fault.NoMemory
