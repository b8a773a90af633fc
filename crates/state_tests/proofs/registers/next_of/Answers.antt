use Rattle.std.proofs.Common.{sym}
use Rattle.state_tests.proofs.registers.next_of.Goals as goal

pub next-requires-clause-fits : goal.next-requires-clause-fits
next-requires-clause-fits c = c.law_of_rounds.ensures.register c.args.circuit.now c.args.before.now c.args.now.now 0 c.in_ok-reg.reg.now c.requires.valid c.requires.before c.requires.now (sym c.in_ok-reg.ensures.value)
