use Rattle.std.proofs.Common.{◌∙◌}
use Rattle.eval_commit.specs.Invariant.{state_of}
use Rattle.eval_commit.proofs.Standing.{start_is}
use Rattle.eval_commit.proofs.step.Rounds.start.Goals as goal

pub first_nets-requires-clause-rounds : goal.first_nets-requires-clause-rounds
first_nets-requires-clause-rounds c = c.in_ok-rounds.ensures.rounds

pub returns-clause-standing : goal.returns-clause-standing
returns-clause-standing c =
    start_is c.args.circuit.now c.first_nets.new.self (state_of c.in_ok-rounds.rounds) c.as_slice.result.now c.first_nets.ensures.state c.in_ok-rounds.ensures.state c.first_nets.ensures.nets (c.as_slice.ensures ∙ c.in_ok-inputs.ensures.zero)
