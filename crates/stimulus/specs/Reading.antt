-- A stimulus' text, line by line.
use Rattle.std.specs.Prelude.{◌≡◌, ℕ, ◌+◌, List, [], ◌∷◌, max, Result, Ok, Err}
use Rattle.circuit.specs.declared.netlist.Circuit.{Circuit}
use Rattle.stimulus_text.specs.Lines.{lines_of}
use Rattle.stimulus_text.specs.declared.fault.StimFault.{StimFault}
use Rattle.stimulus_text.specs.declared.fault.StimFault.TheVariants.{At, NoMemory}
use Rattle.stimulus_text.specs.declared.fault.StimFaultKind.{StimFaultKind}
use Rattle.stimulus_blocks.specs.Courses.{Course}
use Rattle.stimulus.specs.Steps.{Step, end_step, line_step}
use Rattle.stimulus.specs.declared.reading.Reading.{Reading}
use Rattle.stimulus.specs.declared.reading.Reading.TheVariants as reading

-- a fault at the end of the text has the last line's number
abbrev pub at_end : ℕ → Result Course StimFaultKind → Result Course StimFault
at_end number (Ok course) = Ok course
at_end number (Err kind) = Err (At kind (max number 1))

-- what a line of this number leads to, where `go_on` says what stands behind it
abbrev pub at_line : ℕ → (Reading → Result Course StimFault) → Step → Result Course StimFault
at_line number go_on (Ok place) = go_on place
at_line number go_on (Err kind) = Err (At kind number)

-- the stimulus of the lines from a place on, of which so many were before, or the first fault
unfoldable pub course_from : Circuit → ℕ → Reading → List (List ℕ) → Result Course StimFault
course_from c number place [] = at_end number (end_step place)
course_from c number place (line ∷ lines) = at_line (number + 1) (λ next. course_from c (number + 1) next lines) (line_step c place line)

-- the stimulus of a text for a circuit, or the first fault with its line
abbrev pub course_of : List ℕ → Circuit → Result Course StimFault
course_of text c = course_from c 0 reading.Start (lines_of text)

-- a fault that is answered is what was read; want of memory says nothing of it
abbrev pub Fails : StimFault → Result Course StimFault → Type 0
Fails NoMemory read = Unit {0}
Fails fault read = read ≡ Err fault
