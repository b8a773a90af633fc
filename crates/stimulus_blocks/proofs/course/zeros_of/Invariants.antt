use Rattle.std.proofs.Common.{◌≡◌, map, take, get_or}
use Rattle.sim_base.specs.Values.{widths}
use Rattle.stimulus_blocks.proofs.course.zeros_of.Given as goal

abbrev pub invariant-loop-column : goal.invariant-loop-column
invariant-loop-column l = widths l.zeros.items ≡ map (λ column. get_or l.of column 0) (take l.column-index l.columns)
