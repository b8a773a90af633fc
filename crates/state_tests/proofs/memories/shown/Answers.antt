use Rattle.std.proofs.Common.{sym}
use Rattle.state_tests.proofs.memories.shown.Goals as goal

pub read_port-requires-clause-fits : goal.read_port-requires-clause-fits
read_port-requires-clause-fits c = c.law_of_memories.ensures.memory c.args.circuit.now c.args.now.now c.args.now.now 0 c.in_ok-mem.mem.now c.requires.valid c.requires.now c.requires.now (sym c.in_ok-mem.ensures.value)
