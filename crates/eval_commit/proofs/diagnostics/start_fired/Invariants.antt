use Rattle.std.proofs.Common.{◌≡◌, take}
use Rattle.eval_commit.specs.Fired.{none_fired}
use Rattle.eval_commit.proofs.diagnostics.start_fired.Given as goal

abbrev pub invariant-loop-diag : goal.invariant-loop-diag
invariant-loop-diag l = l.fired ≡ none_fired (take l._diag-index l._diag-items)
