use Rattle.std.proofs.Common.{◌+◌, length, sym, ◌∙◌, ap, subst, Bool}
use Rattle.cell_changes.specs.Changes.{changed_cells}
use Rattle.circuit.specs.declared.store.Store.{Store}
use Rattle.state_cells.specs.Diagnostics.{round_of}
use Rattle.eval_commit.specs.Shown.{ShowsCells}
use Rattle.eval_commit.proofs.Firing.{fired_length}
use Rattle.eval_commit.proofs.Standing.{flags_put, stores_swapped}
use Rattle.eval_commit.proofs.step.Rounds.round.Goals as goal

pub returns-clause-rounds : goal.returns-clause-rounds
returns-clause-rounds g c =
    let r = c.next_state-changed.new.self in
    let is = c.next_state-changed.ensures.rounds c.args.plan.now c.value_nets.ensures.rounds in
    let long = ap (length {A = Bool}) c.next_fired.ensures ∙ fired_length c.args.circuit.now.diags r.fired (round_of r.before r.now) is.fired in
    stores_swapped c.args.circuit.now c.args.plan.now (record r { fired = c.next_fired.new.fired }) c.swap.new.x c.swap.new.y (flags_put c.args.circuit.now c.args.plan.now r c.next_fired.new.fired is long) c.swap.ensures.x_after c.swap.ensures.y_after

pub returns-clause-shown : goal.returns-clause-shown
returns-clause-shown g c =
    subst (λ (s : Store). ShowsCells c.args.circuit.now c.args.plan.now s.nets) (sym (c.swap.ensures.x_after ∙ c.next_state-changed.ensures.now)) c.value_nets.ensures.shown

pub returns-clause-steps : goal.returns-clause-steps
returns-clause-steps g c =
    c.value_nets.ensures.steps
    ∙ ap (λ (s : Store). c.args.steps.now + changed_cells c.args.circuit.now.cells (round_of c.args.self.now.before s)) (sym (c.swap.ensures.x_after ∙ c.next_state-changed.ensures.now))
