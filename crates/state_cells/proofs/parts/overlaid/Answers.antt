use Rattle.state_cells.proofs.Masks.{overlaid_digit}
use Rattle.state_cells.proofs.parts.overlaid.Goals as goal

pub returns : goal.returns
returns c = λ j lt. overlaid_digit c.args.rest c.args.set c.args.clear j c.ranges.clear.fits lt
