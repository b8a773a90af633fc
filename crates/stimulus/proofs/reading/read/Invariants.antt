use Rattle.std.proofs.Common.{◌≡◌, ◌+◌, ◌≤◌, length}
use Rattle.stimulus_text.specs.Lines.{lines_of}
use Rattle.stimulus.specs.Reading.{course_from, course_of}
use Rattle.stimulus.specs.Sound.{IsSound}
use Rattle.stimulus.proofs.reading.read.Given as goal

abbrev pub invariant-loop-line : goal.invariant-loop-line
invariant-loop-line l = record {
  read : course_of l.text l.circuit ≡ course_from l.circuit l.number l.reading (lines_of l.rest);
  room : l.number + length l.rest ≤ length l.text;
  sound : IsSound l.reading;
}

abbrev pub decreases-loop-line : goal.decreases-loop-line
decreases-loop-line l = length l.rest
