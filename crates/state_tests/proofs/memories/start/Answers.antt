use Rattle.std.proofs.Common.{sym}
use Rattle.state_tests.proofs.memories.start.Goals as goal

pub new-requires : goal.new-requires
new-requires c = c.law_of_memories.ensures.init c.args.circuit.now 0 c.in-Some.mem.now c.requires (sym c.in-Some.ensures.value)
