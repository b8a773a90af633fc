use Rattle.memory_cells.proofs.MaskedDigits.{masked_word}
use Rattle.memory_cells.proofs.write.masked.Goals as goal

pub returns : goal.returns
returns c = λ j lt. masked_word c.args.own c.args.mask c.args.word j c.ranges.mask.fits lt
