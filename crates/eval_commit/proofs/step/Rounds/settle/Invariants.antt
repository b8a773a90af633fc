use Rattle.sim_base.specs.Values.{numbers}
use Rattle.eval_commit.specs.Invariant.{AreRoundsOf, state_of}
use Rattle.eval_commit.specs.Shown.{ShowsCells}
use Rattle.eval_commit.proofs.Settling.{AreStepsLeft, IsLeft}
use Rattle.eval_commit.proofs.step.Rounds.settle.Given as goal

abbrev pub invariant-loop-done : goal.invariant-loop-done
invariant-loop-done g l = record {
  fits : AreRoundsOf l.circuit l.plan l.self;
  left : IsLeft l.circuit (numbers l.inputs) (state_of l.fn.self) (numbers l.fn.self.before.nets) l.done (state_of l.self) (numbers l.self.before.nets) l.self.fired;
  shown : ShowsCells l.circuit l.plan l.self.before.nets;
  stepped : AreStepsLeft l.circuit (numbers l.inputs) (state_of l.fn.self) (numbers l.fn.self.before.nets) l.done (state_of l.self) (numbers l.self.before.nets) l.fn.steps l.steps;
}
