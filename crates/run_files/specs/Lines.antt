-- The lines that say why the files of a run are refused.
use Rattle.std.specs.Prelude.{ℕ, List, Option, Some, codes}
use Rattle.refusal_lines.specs.Lines.{design_fault_line, stimulus_fault_line, text_fault_line}
use Rattle.run_files.specs.declared.refusal.Refusal.{Refusal}
use Rattle.run_files.specs.declared.refusal.Refusal.TheVariants as refusal

-- a fault that is want of memory has none
abbrev pub refusal_line : Refusal → Option (List ℕ)
refusal_line refusal.DesignTooLong = Some (codes "refused 50 FileTooLong design\n")
refusal_line (refusal.Text f) = text_fault_line f
refusal_line (refusal.Design f) = design_fault_line f
refusal_line refusal.StimulusTooLong = Some (codes "refused 50 FileTooLong stimulus\n")
refusal_line (refusal.Stimulus kind line) = Some (stimulus_fault_line kind line)
