use Rattle.std.proofs.Common.{sym, ◌∙◌, ap, subst, Bool}
use Rattle.circuit.specs.declared.netlist.Circuit.{Circuit}
use Rattle.sim_base.specs.Values.{numbers}
use Rattle.eval_commit.specs.Invariant.{AreRoundsOf}
use Rattle.eval_commit.specs.Shown.{ShowsCells}
use Rattle.eval_commit.proofs.Machines.{gets_stuck, goes_on, shown, stays_stuck}
use Rattle.eval_commit.proofs.machine.Machine.settle.Goals.{in-No, in_default}
use Rattle.eval_commit.proofs.machine.Machine.settle.Goals as goal

pub returns-then-self-clause-machine : goal.returns-then-self-clause-machine
returns-then-self-clause-machine g c =
    stays_stuck c.self.inside.circuit.value c.self.inside.plan c.self.inside.stuck c.self.inside.rounds c.args.self.now c.self.view_is c.self.invariant.1 (numbers c.args.inputs.now) c.if-self.true

pub returns-clause-machine : goal.returns-clause-machine
returns-clause-machine g c = elim c.match-matches.branch [
  | in-No w ↦
      (ap (λ (b : Bool). shown c.self.inside.circuit.value b c.settle-settled.new.self) w.self-is
      ∙ gets_stuck c.self.inside.circuit.value c.self.inside.plan c.self.inside.stuck c.self.inside.rounds c.args.self.now c.self.view_is c.self.invariant.1
      c.deref.result.now c.deref.ensures (numbers c.args.inputs.now) c.if-self.false c.settle-settled.new.self (c.settle-settled.ensures.no w.in-No.is))
  | in_default w ↦
      (ap (λ (b : Bool). shown c.self.inside.circuit.value b c.settle-settled.new.self) w.self-is
      ∙ goes_on c.self.inside.circuit.value c.self.inside.plan c.self.inside.stuck c.self.inside.rounds c.args.self.now c.self.view_is c.self.invariant.1
      c.deref.result.now c.deref.ensures (numbers c.args.inputs.now) c.if-self.false c.settle-settled.new.self
      (c.settle-settled.ensures.yes w.in_default.field-0 w.in_default.is) (c.settle-settled.ensures.fired w.in_default.field-0 w.in_default.is))
]

pub settle-settled-requires-clause-shown : goal.settle-settled-requires-clause-shown
settle-settled-requires-clause-shown g c =
    subst (λ (k : Circuit). ShowsCells k c.self.inside.plan c.self.inside.rounds.before.nets) (sym c.deref.ensures) c.self.invariant.2

pub invariant_of-self : goal.invariant_of-self
invariant_of-self g c = (
  c.self.invariant.0,
  subst (λ (k : Circuit). AreRoundsOf k c.self.inside.plan c.settle-settled.new.self) c.deref.ensures c.settle-settled.ensures.rounds,
  subst (λ (k : Circuit). ShowsCells k c.self.inside.plan c.settle-settled.new.self.before.nets) c.deref.ensures c.settle-settled.ensures.shown,
)
