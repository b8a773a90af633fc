use Rattle.std.proofs.Common.{◌≡◌, ℕ, ◌<◌, map, get_or}
use Rattle.sim_base.specs.Values.{numbers, widths}
use Rattle.stimulus_text.specs.Numbers.{number_of}
use Rattle.stimulus_blocks.proofs.course.put_wide_row.Given as goal

abbrev pub invariant-loop-i : goal.invariant-loop-i
invariant-loop-i l = record {
  widths : widths l.into ≡ widths l.initial.into;
  numbers : (k : ℕ) → k < l.i → get_or (numbers l.into) k 0 ≡ get_or (map (λ column. get_or (map number_of l.values) column 0) l.columns) k 0;
}
