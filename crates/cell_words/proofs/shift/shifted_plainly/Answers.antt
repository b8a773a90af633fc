use Rattle.cell_words.proofs.Sources.{plain_far, plain_right}
use Rattle.cell_words.proofs.shift.shifted_plainly.Goals as goal

pub returns-then-by-gt63 : goal.returns-then-by-gt63
returns-then-by-gt63 c i p = plain_far c.args.op i c.args.number c.args.by c.requires c.if-by-gt63.true p

pub returns-in_default : goal.returns-in_default
returns-in_default c i p = plain_right c.args.op i c.args.number c.args.by c.requires c.in_default.not-Shl c.in_default.not-Sshl p
