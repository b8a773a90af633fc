use Rattle.std.proofs.Common.{◌≡◌, ◌<◌, ◌^◌}
use Rattle.std.specs.Prelude.{◌==◌}
use Rattle.cell_words.specs.Shifts.{all_ones}
use Rattle.cell_words.proofs.amount.is_rest.Given as goal

abbrev pub invariant-loop-left : goal.invariant-loop-left
invariant-loop-left l = record {
  below : l.reader.number < 2 ^ l.left;
  same : (l.fn.reader.number == all_ones l.ones l.fn.left) ≡ (l.reader.number == all_ones l.ones l.left);
}

abbrev pub decreases-loop-left : goal.decreases-loop-left
decreases-loop-left l = l.left
