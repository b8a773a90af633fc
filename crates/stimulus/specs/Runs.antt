-- The run that a circuit and its stimulus stand for.
use Rattle.std.specs.Prelude.{◌≡◌, ℕ, List, Ok}
use Rattle.std.specs.Arc.{arc_value}
use Rattle.circuit.specs.Rounds.{Run}
use Rattle.circuit.specs.declared.netlist.Circuit.{Circuit}
use Rattle.stimulus_blocks.specs.Courses.{Course}
use Rattle.stimulus_blocks.specs.Courses as courses
use Rattle.stimulus.specs.Reading.{course_of}
use Rattle.stimulus.specs.declared.run.Run.{Run as Pair}

abbrev pub run_of : Pair → Run
run_of run = courses.run_of (arc_value run.circuit) (arc_value run.stimulus)

-- some text gives this stimulus for the circuit
abbrev pub IsStimulusOf : Circuit → Course → Type 0
IsStimulusOf c s = (text : List ℕ) × (course_of text c ≡ Ok s)

-- what each call that takes a run asks of its stimulus
abbrev pub IsRun : Pair → Type 0
IsRun run = IsStimulusOf (arc_value run.circuit) (arc_value run.stimulus)
