-- What is said of the design of a file, and how the call ends that says it.
use Rattle.std.specs.Prelude.{◌≡◌, ℕ, List, [], Option, Some, None, Ok, Err, codes}
use Rattle.outside.specs.Shelf.{File, IsLonger, IsOf}
use Rattle.refusal_lines.specs.Lines.{design_fault_line, text_fault_line}
use Rattle.design_load.specs.Loaded.{IsLoaded}
use Rattle.design_load.specs.declared.fault.LoadFault.{LoadFault}
use Rattle.design_load.specs.declared.fault.LoadFault.TheVariants as fault
use Rattle.design_load.specs.declared.load.Loaded.{Loaded}
use Rattle.rtlil_check.specs.Sizes.{sizes_text}
use Rattle.rtlil_check.specs.declared.design.Said.{Said}
use Rattle.rtlil_check.specs.declared.design.Said.TheVariants as said

-- the most bytes of a file that is read
abbrev pub most_bytes : ℕ
most_bytes = 536870912

-- the line of a text or of a design that is refused; want of memory has none
abbrev pub load_fault_line : LoadFault → Option (List ℕ)
load_fault_line (fault.Text f) = text_fault_line f
load_fault_line (fault.Design f) = design_fault_line f
load_fault_line fault.NoMemory = None

-- the line of a file that is longer than what is read
abbrev pub too_long_line : List ℕ
too_long_line = codes "refused 50 FileTooLong design\n"

-- bytes give a design, and this is what it has
abbrev pub IsTaken : List ℕ → Option (List ℕ) → List ℕ → Type 0
IsTaken bytes name text = (l : Loaded) × IsLoaded bytes name (Ok l) × (text ≡ sizes_text l.circuit)

-- bytes give no design, and this is the line that says why
abbrev pub IsRefused : List ℕ → Option (List ℕ) → List ℕ → Type 0
IsRefused bytes name line = (f : LoadFault) × IsLoaded bytes name (Err f) × (load_fault_line f ≡ Some line)

abbrev pub IsSaidOfText : List ℕ → Option (List ℕ) → Said → Type 0
IsSaidOfText bytes name (said.Taken text) = IsTaken bytes name text.items
IsSaidOfText bytes name (said.Refused line) = IsRefused bytes name line.items
IsSaidOfText bytes name said.TooLong = ⊥

-- what is said of the design of a file, with this top if one is given
abbrev pub IsSaidOf : File → Option (List ℕ) → Said → Type 0
IsSaidOf file name (said.Taken text) = (bytes : List ℕ) × IsOf file bytes × IsTaken bytes name text.items
IsSaidOf file name (said.Refused line) = (bytes : List ℕ) × IsOf file bytes × IsRefused bytes name line.items
IsSaidOf file name said.TooLong = IsLonger file most_bytes

-- ---- the call

-- what is said goes to the output, and to the log where the design is refused
abbrev pub text_for_output : Said → List ℕ
text_for_output (said.Taken text) = text.items
text_for_output _ = []

abbrev pub text_for_log : Said → List ℕ
text_for_log (said.Taken text) = []
text_for_log (said.Refused line) = line.items
text_for_log said.TooLong = too_long_line

abbrev pub said_status : Said → ℕ
said_status (said.Taken text) = 0
said_status _ = 4
