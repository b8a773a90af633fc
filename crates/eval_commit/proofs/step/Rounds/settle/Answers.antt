use Rattle.std.proofs.Common.{◌≡◌, ◌+◌, length, refl, ◌∙◌, sym, ap, Bool, false}
use Rattle.std.proofs.lemmas.List.{length-map}
use Rattle.circuit.specs.State.{same_state}
use Rattle.sim_base.specs.Values.{numbers}
use Rattle.eval_commit.specs.Invariant.{state_of}
use Rattle.eval_commit.proofs.Firing.{all_cleared}
use Rattle.eval_commit.proofs.Settling.{all_left, has_fired, has_not_settled, has_settled, one_less, settled_in, steps_all, steps_done, steps_less, told_changed, told_unchanged}
use Rattle.eval_commit.proofs.Standing.{flags_put}
use Rattle.eval_commit.proofs.step.Rounds.settle.Goals as goal

pub loop-done-init : goal.loop-done-init
loop-done-init g c = record {
  fits =
      flags_put c.args.circuit.now c.args.plan.now c.args.self.now c.clear_fired.new.fired c.requires.rounds
      (ap (length {A = Bool}) c.clear_fired.ensures ∙ length-map c.args.self.now.fired (λ (_ : Bool). false));
  left =
      all_left c.args.circuit.now (numbers c.args.inputs.now) (state_of c.args.self.now) (numbers c.args.self.now.before.nets) c.clear_fired.new.fired
      (c.clear_fired.ensures ∙ all_cleared c.args.circuit.now.diags c.args.self.now.fired c.requires.rounds.fired);
  shown = c.requires.shown;
  stepped = refl;
}

pub loop-done-preserved : goal.loop-done-preserved
loop-done-preserved g c =
    let other = told_changed (same_state (state_of c.round.new.self) (state_of c.loop-done.self)) (sym c.if-not-round.false ∙ c.round.ensures.changed) in
    record {
      fits = c.round.ensures.rounds;
      left =
          one_less c.args.circuit.now (numbers c.args.inputs.now) (state_of c.args.self.now) (numbers c.args.self.now.before.nets) c.loop-done.done (state_of c.loop-done.self) (numbers c.loop-done.self.before.nets) c.loop-done.self.fired c.loop-done.invariant.left
          (state_of c.round.new.self) (numbers c.round.new.self.before.nets) c.loop-done-test.true c.round.ensures.nets c.round.ensures.state other c.round.new.self.fired c.round.ensures.fired;
      shown = c.round.ensures.shown;
      stepped =
          steps_less c.args.circuit.now (numbers c.args.inputs.now) (state_of c.args.self.now) (numbers c.args.self.now.before.nets) c.loop-done.done (state_of c.loop-done.self) (numbers c.loop-done.self.before.nets) c.args.steps.now c.loop-done.steps c.loop-done.invariant.stepped
          (state_of c.round.new.self) (numbers c.round.new.self.before.nets) c.round.new.steps c.loop-done-test.true c.round.ensures.nets c.round.ensures.state c.round.ensures.steps other;
    }

pub returns-then-not-round-clause-yes : goal.returns-then-not-round-clause-yes
returns-then-not-round-clause-yes g c n e =
    let still = told_unchanged (same_state (state_of c.round.new.self) (state_of c.loop-done.self)) (sym c.if-not-round.true ∙ c.round.ensures.changed) in
    has_settled c.args.circuit.now (numbers c.args.inputs.now) (state_of c.args.self.now) (numbers c.args.self.now.before.nets) c.loop-done.done (state_of c.loop-done.self) (numbers c.loop-done.self.before.nets) c.loop-done.self.fired c.loop-done.invariant.left
    (state_of c.round.new.self) (numbers c.round.new.self.before.nets) c.loop-done-test.true c.round.ensures.nets c.round.ensures.state still

pub returns-then-not-round-clause-count : goal.returns-then-not-round-clause-count
returns-then-not-round-clause-count g c n e =
    let still = told_unchanged (same_state (state_of c.round.new.self) (state_of c.loop-done.self)) (sym c.if-not-round.true ∙ c.round.ensures.changed) in
    let same : c.loop-done.done + 1 ≡ n = cc e in
    sym same
    ∙ settled_in c.args.circuit.now (numbers c.args.inputs.now) (state_of c.args.self.now) (numbers c.args.self.now.before.nets) c.loop-done.done (state_of c.loop-done.self) (numbers c.loop-done.self.before.nets) c.loop-done.self.fired c.loop-done.invariant.left
    (state_of c.round.new.self) (numbers c.round.new.self.before.nets) c.loop-done-test.true c.round.ensures.nets c.round.ensures.state still

pub returns-then-not-round-clause-fired : goal.returns-then-not-round-clause-fired
returns-then-not-round-clause-fired g c n e =
    let still = told_unchanged (same_state (state_of c.round.new.self) (state_of c.loop-done.self)) (sym c.if-not-round.true ∙ c.round.ensures.changed) in
    has_fired c.args.circuit.now (numbers c.args.inputs.now) (state_of c.args.self.now) (numbers c.args.self.now.before.nets) c.loop-done.done (state_of c.loop-done.self) (numbers c.loop-done.self.before.nets) c.loop-done.self.fired c.loop-done.invariant.left
    (state_of c.round.new.self) (numbers c.round.new.self.before.nets) c.loop-done-test.true c.round.ensures.nets c.round.ensures.state still c.round.new.self.fired c.round.ensures.fired

pub returns-then-not-round-clause-steps : goal.returns-then-not-round-clause-steps
returns-then-not-round-clause-steps g c =
    let still = told_unchanged (same_state (state_of c.round.new.self) (state_of c.loop-done.self)) (sym c.if-not-round.true ∙ c.round.ensures.changed) in
    steps_done c.args.circuit.now (numbers c.args.inputs.now) (state_of c.args.self.now) (numbers c.args.self.now.before.nets) c.loop-done.done (state_of c.loop-done.self) (numbers c.loop-done.self.before.nets) c.args.steps.now c.loop-done.steps c.loop-done.invariant.stepped
    (state_of c.round.new.self) (numbers c.round.new.self.before.nets) c.round.new.steps c.loop-done-test.true c.round.ensures.nets c.round.ensures.state c.round.ensures.steps still

pub returns-clause-no : goal.returns-clause-no
returns-clause-no g c e =
    has_not_settled c.args.circuit.now (numbers c.args.inputs.now) (state_of c.args.self.now) (numbers c.args.self.now.before.nets) c.loop-done.done (state_of c.loop-done.self) (numbers c.loop-done.self.before.nets) c.loop-done.self.fired c.loop-done.invariant.left
    c.loop-done-test.false

pub returns-clause-steps : goal.returns-clause-steps
returns-clause-steps g c =
    steps_all c.args.circuit.now (numbers c.args.inputs.now) (state_of c.args.self.now) (numbers c.args.self.now.before.nets) c.loop-done.done (state_of c.loop-done.self) (numbers c.loop-done.self.before.nets) c.args.steps.now c.loop-done.steps c.loop-done.invariant.stepped c.loop-done-test.false
