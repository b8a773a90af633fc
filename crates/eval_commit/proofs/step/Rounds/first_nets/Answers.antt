use Rattle.std.proofs.Common.{◌∙◌}
use Rattle.eval_commit.specs.Invariant.{state_of}
use Rattle.eval_commit.proofs.Standing.{rounds_hold}
use Rattle.eval_commit.proofs.Telling.{readers_have}
use Rattle.eval_commit.proofs.step.Rounds.first_nets.Goals as goal

pub returns-clause-nets : goal.returns-clause-nets
returns-clause-nets g c =
    c.evaluate.ensures.nets (state_of c.args.self.now)
    (rounds_hold c.args.circuit.now c.args.plan.now c.args.self.now c.put_reads.new.store c.as_slice-2.result.now c.requires.rounds c.as_slice-2.ensures
    (c.put_reads.ensures.regs ∙ c.put_regs.ensures.regs) (c.put_reads.ensures.reads ∙ c.as_slice.ensures))

pub returns-clause-shown : goal.returns-clause-shown
returns-clause-shown g c =
    c.evaluate.ensures.shown (state_of c.args.self.now)
    (rounds_hold c.args.circuit.now c.args.plan.now c.args.self.now c.put_reads.new.store c.as_slice-2.result.now c.requires.rounds c.as_slice-2.ensures
    (c.put_reads.ensures.regs ∙ c.put_regs.ensures.regs) (c.put_reads.ensures.reads ∙ c.as_slice.ensures))

pub evaluate-requires-clause-marks : goal.evaluate-requires-clause-marks
evaluate-requires-clause-marks g c =
    readers_have c.args.circuit.now c.args.plan.now.nodes c.args.plan.now.roots c.args.plan.now.readers c.args.self.now.marks c.requires.plan.readers c.requires.rounds.marks
