use Rattle.std.proofs.Common.{sym}
use Rattle.state_tests.proofs.triggers.fires_of.Goals as goal

pub fires-requires : goal.fires-requires
fires-requires c = c.law_of_rounds.ensures.diagnostic c.args.circuit.now c.args.before.now c.args.now.now 0 c.in_ok-diag.diag.now c.requires.valid c.requires.before c.requires.now (sym c.in_ok-diag.ensures.value)
