use Rattle.stimulus_blocks.proofs.Until.{rises, ends}
use Rattle.stimulus_blocks.proofs.laws.law_of_times.Goals as goal

pub returns-clause-rise : goal.returns-clause-rise
returns-clause-rise c = rises

pub returns-clause-most : goal.returns-clause-most
returns-clause-most c = ends
