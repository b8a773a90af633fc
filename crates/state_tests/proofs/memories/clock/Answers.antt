use Rattle.std.proofs.Common.{sym}
use Rattle.state_tests.proofs.memories.clock.Goals as goal

pub clock_ports-requires-clause-fits : goal.clock_ports-requires-clause-fits
clock_ports-requires-clause-fits c = c.law_of_memories.ensures.memory c.args.circuit.now c.args.before.now c.args.now.now 0 c.in_ok-mem.mem.now c.requires.valid c.requires.before c.requires.now (sym c.in_ok-mem.ensures.value)
