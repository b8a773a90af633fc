use Rattle.std.proofs.Common.{subst}
use Rattle.circuit.specs.declared.netlist.Circuit.{Circuit}
use Rattle.eval_commit.specs.Invariant.{AreRoundsOf}
use Rattle.eval_commit.specs.Shown.{ShowsCells}
use Rattle.eval_commit.proofs.machine.Machine.new.Goals as goal

pub invariant_of-result : goal.invariant_of-result
invariant_of-result c = (
  c.requires,
  subst (λ (k : Circuit). AreRoundsOf k c.args.plan c.in_ok-rounds.rounds) c.deref.ensures c.in_ok-rounds.ensures.rounds,
  subst (λ (k : Circuit). ShowsCells k c.args.plan c.in_ok-rounds.rounds.before.nets) c.deref.ensures c.in_ok-rounds.ensures.shown,
)
