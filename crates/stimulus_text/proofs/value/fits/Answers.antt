use Rattle.std.proofs.Common.{arith}
use Rattle.stimulus_text.proofs.Hexadecimal.{fits_word, fits_none}
use Rattle.stimulus_text.proofs.value.fits.Goals as goal

pub returns-then-width-ge64 : goal.returns-then-width-ge64
returns-then-width-ge64 c = fits_word c.args.number c.args.width (omega arith) c.if-width-ge64.true

pub returns-else-width-ge64 : goal.returns-else-width-ge64
returns-else-width-ge64 c = fits_none c.args.number c.args.width
