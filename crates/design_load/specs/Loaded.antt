-- What a text in RTLIL gives: a circuit in order, or why there is none.
use Rattle.std.specs.Prelude.{◌≡◌, ℕ, List, Option, Some, None, Result, Ok, Err}
use Rattle.rtlil_lexer.specs.Tokens.{lexed}
use Rattle.rtlil_lexer.specs.declared.fault.TextFault.{TextFault}
use Rattle.rtlil_lexer.specs.declared.fault.TextFault.TheVariants as text
use Rattle.rtlil_lexer.specs.declared.token.Token.{Token}
use Rattle.rtlil_tree.specs.Modules.{parsed}
use Rattle.rtlil_tree.specs.declared.module.File.{File}
use Rattle.circuit.specs.declared.fault.DesignFault.{DesignFault}
use Rattle.circuit.specs.declared.netlist.Circuit.{Circuit}
use Rattle.driver_check.specs.Faults.{SaysFault}
use Rattle.eval_plan.specs.Plans.{IsPlanOf}
use Rattle.design_parts.specs.Parts.{Made}
use Rattle.design_parts.specs.declared.refusal.Refusal.{Refusal}
use Rattle.design_parts.specs.declared.refusal.Refusal.TheVariants.{At, NoMemory as OutOfMemory}
use Rattle.process_check.specs.Processes.{processes_refused}
use Rattle.elaborate.specs.Elaborated.{IsCircuitOf, whole_made}
use Rattle.design_load.specs.declared.fault.LoadFault.{LoadFault}
use Rattle.design_load.specs.declared.fault.LoadFault.TheVariants as fault
use Rattle.design_load.specs.declared.load.Loaded.{Loaded}

-- ---- the file

abbrev pub allowed : Result (Unit {0}) TextFault → File → Result File TextFault
allowed (Ok _) file = Ok file
allowed (Err f) file = Err f

-- a file without a process
abbrev pub without_processes : Result File TextFault → Result File TextFault
without_processes (Ok file) = allowed (processes_refused file) file
without_processes (Err f) = Err f

abbrev pub file_of : Result (List Token) TextFault → Result File TextFault
file_of (Ok tokens) = without_processes (parsed tokens)
file_of (Err f) = Err f

-- the file of a text: its tokens, their tree, and no process in it; or the first fault
abbrev pub file_in : List ℕ → Result File TextFault
file_in bytes = file_of (lexed bytes)

-- ---- the lists of the design

abbrev pub checked : Result Made DesignFault → Result Made LoadFault
checked (Ok m) = Ok m
checked (Err f) = Err (fault.Design f)

abbrev pub made_of : Result File TextFault → Option (List ℕ) → Result Made LoadFault
made_of (Ok file) name = checked (whole_made file.modules name)
made_of (Err f) name = Err (fault.Text f)

-- what a text gives, from the module of this name if one is given, or its first fault
abbrev pub made_in : List ℕ → Option (List ℕ) → Result Made LoadFault
made_in bytes name = made_of (file_in bytes) name

-- ---- the circuit in order

-- a design's fault is the first of its checks that fails, or where none does that of the circuit's drives
abbrev pub RefusesDesign : DesignFault → Result Made LoadFault → Type 0
RefusesDesign f (Ok m) = (c : Circuit) × IsCircuitOf m c × SaysFault c f
RefusesDesign f (Err g) = fault.Design f ≡ g

-- want of memory is free
abbrev pub Refuses : LoadFault → Result Made LoadFault → Type 0
Refuses fault.NoMemory made = Unit {0}
Refuses (fault.Text f) made = made ≡ Err (fault.Text f)
Refuses (fault.Design f) made = RefusesDesign f made

abbrev pub IsLoaded : List ℕ → Option (List ℕ) → Result Loaded LoadFault → Type 0
IsLoaded bytes name (Ok l) = (m : Made) × (made_in bytes name ≡ Ok m) × IsCircuitOf m l.circuit × IsPlanOf l.circuit l.plan
IsLoaded bytes name (Err e) = Refuses e (made_in bytes name)

-- ---- what the code does

-- the fault that is answered for one of the text, and for a refusal of its design
abbrev pub text_refused : TextFault → LoadFault
text_refused text.NoMemory = fault.NoMemory
text_refused (text.At kind line column) = fault.Text (text.At kind line column)

abbrev pub design_refused : Refusal → LoadFault
design_refused OutOfMemory = fault.NoMemory
design_refused (At f) = fault.Design f

-- a fault of a circuit's drives, by its number, of which want of memory has none
abbrev pub numbered_refused : Option ℕ → DesignFault → LoadFault
numbered_refused None f = fault.NoMemory
numbered_refused (Some number) f = fault.Design f

-- a circuit of lists that were made, or why there is none
abbrev pub IsBuilt : Result Made LoadFault → Result Circuit LoadFault → Type 0
IsBuilt made (Ok c) = (m : Made) × (made ≡ Ok m) × IsCircuitOf m c
IsBuilt made (Err e) = Refuses e made

abbrev pub IsOrdered : Circuit → Result Loaded LoadFault → Type 0
IsOrdered c (Ok l) = (l.circuit ≡ c) × IsPlanOf c l.plan
IsOrdered c (Err fault.NoMemory) = Unit {0}
IsOrdered c (Err (fault.Text f)) = ⊥
IsOrdered c (Err (fault.Design f)) = SaysFault c f
