use Rattle.eval_commit.proofs.Machines.{fired_shown, none_fired_at}
use Rattle.eval_commit.proofs.machine.Machine.fired.Goals as goal

pub returns-then-self : goal.returns-then-self
returns-then-self c =
    none_fired_at c.self.inside.circuit.value c.self.inside.plan c.self.inside.stuck c.self.inside.rounds c.args.self.now c.self.view_is c.self.invariant.1 c.args.d c.if-self.true c.requires

pub returns : goal.returns
returns c =
    fired_shown c.self.inside.circuit.value c.self.inside.plan c.self.inside.stuck c.self.inside.rounds c.args.self.now c.self.view_is c.self.invariant.1 c.args.d c.as_slice.result.now c.if-self.false c.as_slice.ensures c.requires
