use Rattle.std.proofs.Common.{◌≡◌, None, Some, suc, refl, sym}
use Rattle.circuit.specs.Rounds.{standing_after}
use Rattle.flat_run.specs.Run.{run_under}
use Rattle.cxxsim.proofs.Steps.{goes_on}
use Rattle.cxxsim.proofs.tracing.trace_sample.Goals as goal

pub returns-in_ok-push_sample-clause-settled : goal.returns-in_ok-push_sample-clause-settled
returns-in_ok-push_sample-clause-settled c is here =
    let next : standing_after (run_under c.args.circuit.now c.args.stimulus.now) (suc c.args.k) ≡ Some c.sample-settled.new.self =
    goes_on (run_under c.args.circuit.now c.args.stimulus.now) c.args.k c.args.rounds.now c.row-time.new.into (Some c.sample-settled.new.self) here c.row-time.ensures.inputs (c.sample-settled.ensures.settled c.if-settled.true) in
    (next, c.in_ok-push_sample.ensures (run_under c.args.circuit.now c.args.stimulus.now) c.args.k refl (sym c.row-time.ensures.time) next)

pub returns-else-settled-clause-unsettled : goal.returns-else-settled-clause-unsettled
returns-else-settled-clause-unsettled c is here =
    (goes_on (run_under c.args.circuit.now c.args.stimulus.now) c.args.k c.args.rounds.now c.row-time.new.into None here c.row-time.ensures.inputs (c.sample-settled.ensures.unsettled c.if-settled.false), refl)
