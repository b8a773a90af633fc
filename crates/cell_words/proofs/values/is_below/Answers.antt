use Rattle.cell_words.proofs.Compared.{signed_below}
use Rattle.cell_words.proofs.values.is_below.Goals as goal

pub returns : goal.returns
returns c = signed_below c.args.signed c.args.width c.args.a c.args.b c.if-not-signed.false c.requires.some c.requires.small c.requires.a c.requires.b
