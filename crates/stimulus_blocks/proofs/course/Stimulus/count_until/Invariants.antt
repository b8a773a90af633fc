use Rattle.std.proofs.Common.{ℕ, ◌-◌, ◌<◌, ◌≤◌}
use Rattle.stimulus_blocks.specs.Courses.{row_of, sample_count}
use Rattle.stimulus_blocks.proofs.course.Stimulus.count_until.Given as goal

abbrev pub invariant-loop-low : goal.invariant-loop-low
invariant-loop-low l = record {
  order : l.low ≤ l.high;
  inside : l.high ≤ sample_count l.self;
  before : (k : ℕ) → k < l.low → (row_of l.self k).time ≤ l.time;
  behind : (k : ℕ) → l.high ≤ k → k < sample_count l.self → l.time < (row_of l.self k).time;
}

abbrev pub decreases-loop-low : goal.decreases-loop-low
decreases-loop-low l = l.high - l.low
