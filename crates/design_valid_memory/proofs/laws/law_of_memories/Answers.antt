use Rattle.design_valid_memory.proofs.Memory.{keeps_memory}
use Rattle.design_valid_memory.proofs.laws.law_of_memories.Goals as goal

pub returns : goal.returns
returns c here scope x = keeps_memory here scope x
