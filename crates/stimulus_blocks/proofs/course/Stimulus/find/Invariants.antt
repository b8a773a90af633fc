use Rattle.std.proofs.Common.{◌-◌, ◌<◌, ◌≤◌, length, take}
use Rattle.stimulus_blocks.specs.Blocks.{samples_in}
use Rattle.stimulus_blocks.proofs.course.Stimulus.find.Given as goal

abbrev pub invariant-loop-high : goal.invariant-loop-high
invariant-loop-high l = record {
  apart : l.low < l.high;
  inside : l.high ≤ length l.self.blocks;
  first : samples_in (take l.low l.self.blocks) ≤ l.k;
  last : l.k < samples_in (take l.high l.self.blocks);
}

abbrev pub decreases-loop-high : goal.decreases-loop-high
decreases-loop-high l = l.high - l.low
