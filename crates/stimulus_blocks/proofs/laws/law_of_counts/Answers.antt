use Rattle.stimulus_blocks.proofs.Until.{counts}
use Rattle.stimulus_blocks.proofs.laws.law_of_counts.Goals as goal

pub returns : goal.returns
returns c = counts
