use Rattle.state_cells.proofs.Masks.{inverted_digit}
use Rattle.state_cells.proofs.parts.active_digits.Goals as goal

pub returns-else-high : goal.returns-else-high
returns-else-high c = λ j lt. let h = c.if-high.false in rw h (inverted_digit c.args.word j c.ranges.word.fits lt)
