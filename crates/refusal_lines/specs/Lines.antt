-- The lines that say why a design or a stimulus is refused.
use Rattle.std.specs.Prelude.{ℕ, List, [], ◌∷◌, ◌++◌, Option, Some, None, codes, decimal, flat_map}
use Rattle.circuit.specs.Fault.{fault_name, fault_number}
use Rattle.circuit.specs.declared.fault.BitAt.{BitAt}
use Rattle.circuit.specs.declared.fault.DesignFault.{DesignFault}
use Rattle.rtlil_lexer.specs.Faults.{text_fault_name, text_fault_number}
use Rattle.rtlil_lexer.specs.declared.fault.TextFault.{TextFault}
use Rattle.rtlil_lexer.specs.declared.fault.TextFault.TheVariants as fault
use Rattle.stimulus_text.specs.Faults.{stim_fault_name, stim_fault_number}
use Rattle.stimulus_text.specs.declared.fault.StimFaultKind.{StimFaultKind}

-- a number, a name, and what stands behind them
abbrev pub line : ℕ → List ℕ → List ℕ → List ℕ
line number name rest = codes "refused " ++ decimal number ++ 32 ∷ name ++ rest ++ codes "\n"

-- the line of a text's fault; want of memory has none
abbrev pub text_fault_line : TextFault → Option (List ℕ)
text_fault_line (fault.At kind l column) = Some (line (text_fault_number kind) (text_fault_name kind) (32 ∷ decimal l ++ 32 ∷ decimal column))
text_fault_line fault.NoMemory = None

-- a place behind a blank, and nothing where there is no place
abbrev pub place_text : List ℕ → List ℕ
place_text [] = []
place_text (c ∷ cs) = 32 ∷ c ∷ cs

-- a bit behind a blank
abbrev pub bit_text : BitAt → List ℕ
bit_text b = 32 ∷ b.net ++ codes " [" ++ decimal b.bit ++ codes "]"

abbrev pub design_line : Option ℕ → DesignFault → Option (List ℕ)
design_line None f = None
design_line (Some number) f = Some (line number (fault_name f.kind) (place_text f.place ++ flat_map bit_text f.bits))

-- the line of a design's fault; want of memory has none
abbrev pub design_fault_line : DesignFault → Option (List ℕ)
design_fault_line f = design_line (fault_number f.kind) f

-- the line of a stimulus' fault
abbrev pub stimulus_fault_line : StimFaultKind → ℕ → List ℕ
stimulus_fault_line kind l = line (stim_fault_number kind) (stim_fault_name kind) (32 ∷ decimal l)
