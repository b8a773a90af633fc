use Rattle.std.proofs.Common.{refl}
use Rattle.eval_commit.proofs.Machines.{net_number, net_there, net_width}
use Rattle.eval_commit.proofs.Written.{view_read}
use Rattle.eval_commit.proofs.machine.Machine.net.Goals as goal

pub view-requires : goal.view-requires
view-requires c = net_there c.self.inside.circuit.value c.self.inside.plan c.self.inside.stuck c.self.inside.rounds c.args.self.now c.self.view_is c.self.invariant.1 c.args.n c.requires

pub returns-clause-width : goal.returns-clause-width
returns-clause-width c x at =
    net_width c.self.inside.circuit.value c.self.inside.plan c.self.inside.stuck c.self.inside.rounds c.args.self.now c.self.view_is c.self.invariant.1 c.args.n c.self.inside.rounds.before.nets c.view.result x refl (view_read c.self.inside.rounds.before.nets c.args.n c.view.result (net_there c.self.inside.circuit.value c.self.inside.plan c.self.inside.stuck c.self.inside.rounds c.args.self.now c.self.view_is c.self.invariant.1 c.args.n c.requires) c.view.ensures) at

pub returns-clause-number : goal.returns-clause-number
returns-clause-number c s at =
    net_number c.self.inside.circuit.value c.self.inside.plan c.self.inside.stuck c.self.inside.rounds c.args.self.now c.self.view_is c.self.invariant.1 c.args.n c.self.inside.rounds.before.nets c.view.result s c.requires refl
    (view_read c.self.inside.rounds.before.nets c.args.n c.view.result (net_there c.self.inside.circuit.value c.self.inside.plan c.self.inside.stuck c.self.inside.rounds c.args.self.now c.self.view_is c.self.invariant.1 c.args.n c.requires) c.view.ensures) at
