use Rattle.std.proofs.Common.{refl}
use Rattle.sim_base.proofs.Parts.{length-parts}
use Rattle.memory_cells.proofs.Fitting.{init_in, memory_in, same_there}
use Rattle.memory_cells.proofs.laws.law_of_memories.Goals as goal

pub returns-clause-memory : goal.returns-clause-memory
returns-clause-memory c = λ k before now n m valid b w at.
    memory_in k before now m (λ sig. c.law_of_stores.ensures.signal k before sig b) (λ sig. c.law_of_stores.ensures.signal k now sig w) (c.law_of_parts.ensures.memory k n m valid at)

pub returns-clause-outs : goal.returns-clause-outs
returns-clause-outs c = λ k store n m outs of at there. same_there _ _ store.reads k.mems n outs m of.reads there at

pub returns-clause-start : goal.returns-clause-start
returns-clause-start c = λ m. record { width = refl; size = length-parts m.width m.size m.init.number }

pub returns-clause-init : goal.returns-clause-init
returns-clause-init c = λ k n m valid at. init_in k m (c.law_of_parts.ensures.memory k n m valid at)
