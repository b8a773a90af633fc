-- The run that is followed.
use Rattle.circuit.specs.Rounds.{Run}
use Rattle.circuit.specs.declared.netlist.Circuit.{Circuit}
use Rattle.stimulus_blocks.specs.Courses.{Course}
use Rattle.stimulus_blocks.specs.Courses as courses

-- a circuit under a stimulus
pub record Sampled : Type 0 where
  pub circuit : Circuit
  pub course : Course

abbrev pub run_of : Sampled → Run
run_of s = courses.run_of s.circuit s.course
