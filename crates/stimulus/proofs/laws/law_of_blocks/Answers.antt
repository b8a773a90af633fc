use Rattle.stimulus_text.specs.Lines.{lines_of}
use Rattle.stimulus.specs.declared.reading.Reading.TheVariants as reading
use Rattle.stimulus.proofs.HasBlocks.{has_blocks}
use Rattle.stimulus.proofs.laws.law_of_blocks.Goals as goal

pub returns : goal.returns
returns c circuit s read = has_blocks circuit 0 reading.Start (lines_of read.0) s read.1
