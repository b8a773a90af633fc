-- Faults of a text, as they are printed.
use Rattle.std.specs.Prelude.{ℕ, List, codes}
use Rattle.rtlil_lexer.specs.declared.fault.TextFaultKind.{TextFaultKind}
use Rattle.rtlil_lexer.specs.declared.fault.TextFaultKind.TheVariants as kind

-- the number of a refusal
abbrev pub text_fault_number : TextFaultKind → ℕ
text_fault_number kind.BadByte = 1
text_fault_number kind.BadString = 2
text_fault_number kind.BadNumber = 3
text_fault_number kind.Syntax = 4
text_fault_number kind.Nesting = 5
text_fault_number kind.Process = 6

abbrev pub text_fault_name : TextFaultKind → List ℕ
text_fault_name kind.BadByte = codes "BadByte"
text_fault_name kind.BadString = codes "BadString"
text_fault_name kind.BadNumber = codes "BadNumber"
text_fault_name kind.Syntax = codes "Syntax"
text_fault_name kind.Nesting = codes "Nesting"
text_fault_name kind.Process = codes "Process"
