-- Faults of a stimulus' text, as they are printed.
use Rattle.std.specs.Prelude.{ℕ, List, codes}
use Rattle.stimulus_text.specs.declared.fault.StimFaultKind.{StimFaultKind}
use Rattle.stimulus_text.specs.declared.fault.StimFaultKind.TheVariants as kind

-- the number of a refusal
abbrev pub stim_fault_number : StimFaultKind → ℕ
stim_fault_number kind.Head = 30
stim_fault_number kind.InputNames = 31
stim_fault_number kind.BadTime = 32
stim_fault_number kind.BadValue = 33
stim_fault_number kind.NotRising = 34
stim_fault_number kind.Empty = 35
stim_fault_number kind.TooMany = 36

abbrev pub stim_fault_name : StimFaultKind → List ℕ
stim_fault_name kind.Head = codes "Head"
stim_fault_name kind.InputNames = codes "InputNames"
stim_fault_name kind.BadTime = codes "BadTime"
stim_fault_name kind.BadValue = codes "BadValue"
stim_fault_name kind.NotRising = codes "NotRising"
stim_fault_name kind.Empty = codes "Empty"
stim_fault_name kind.TooMany = codes "TooMany"
