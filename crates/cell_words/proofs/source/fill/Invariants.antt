use Rattle.std.proofs.Common.{◌≡◌, ◌-◌, ◌/◌, ◌%◌, ◌^◌}
use Rattle.sim_base.proofs.Filling.{IsFilling}
use Rattle.cell_words.proofs.source.fill.Given as goal

abbrev pub invariant-loop-done : goal.invariant-loop-done
invariant-loop-done l = record {
  source : l.source ≡ l.fn.source / 2 ^ l.done;
  filling : IsFilling l.fn.into l.into l.out (l.fn.source % 2 ^ l.width) l.width l.done l.changed;
}

abbrev pub decreases-loop-done : goal.decreases-loop-done
decreases-loop-done l = l.width - l.done
