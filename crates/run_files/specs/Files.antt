-- What the files of a run give.
use Rattle.std.specs.Prelude.{◌≡◌, ℕ, ◌≤◌, List, length, true, Option, Ok}
use Rattle.circuit.specs.Acyclic.{IsInOrder}
use Rattle.circuit.specs.Valid.{is_valid}
use Rattle.circuit.specs.declared.netlist.Circuit.{Circuit}
use Rattle.design_load.specs.Loaded.{made_in}
use Rattle.design_parts.specs.Parts.{Made}
use Rattle.elaborate.specs.Elaborated.{IsCircuitOf}
use Rattle.outside.specs.Shelf.{File, IsOf}
use Rattle.stimulus.specs.Reading.{course_of}
use Rattle.stimulus_blocks.specs.Courses.{Course}

-- the files of a run, and the identifier of the module that is run, where one is named
pub record Files : Type 0 where
  pub design : File
  pub stimulus : File
  pub top : Option (List ℕ)

abbrev pub files_of : (List ℕ → File) → List ℕ → List ℕ → Option (List ℕ) → Files
files_of file design stimulus top = record { design = file design; stimulus = file stimulus; top = top }

-- the file may have this text, which is not longer than the limit
abbrev pub MayHold : ℕ → File → List ℕ → Type 0
MayHold limit file text = IsOf file text × (length text ≤ limit)

-- this may be the circuit of the file, and it is valid and has an order
pub record IsDesign (limit : ℕ) (file : File) (top : Option (List ℕ)) (c : Circuit) : Type 0 where
  pub text : List ℕ
  pub held : MayHold limit file text
  pub made : Made
  pub gives : made_in text top ≡ Ok made
  pub circuit : IsCircuitOf made c
  pub valid : is_valid c ≡ true
  pub order : IsInOrder c

-- this may be the stimulus of the file, for that circuit
pub record IsStimulus (limit : ℕ) (file : File) (c : Circuit) (s : Course) : Type 0 where
  pub text : List ℕ
  pub held : MayHold limit file text
  pub read : course_of text c ≡ Ok s

-- this may be the circuit of the files, and this its stimulus
pub record IsFilesOf (limit : ℕ) (files : Files) (c : Circuit) (s : Course) : Type 0 where
  pub design : IsDesign limit files.design files.top c
  pub stimulus : IsStimulus limit files.stimulus c s
