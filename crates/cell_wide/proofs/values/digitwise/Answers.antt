use Rattle.std.proofs.Common.{arith}
use Rattle.std.proofs.lemmas.Nat.{or_lt, xor_lt}
use Rattle.cell_wide.proofs.values.digitwise.Goals as goal

pub overflow_sub-result : goal.overflow_sub-result
overflow_sub-result c = omega (arith, c.ones_word.ensures, xor_lt c.args.n c.args.one c.args.other c.requires.one c.requires.other)

pub returns-in-Or-clause-below : goal.returns-in-Or-clause-below
returns-in-Or-clause-below c = or_lt c.args.n c.args.one c.args.other c.requires.one c.requires.other

pub returns-in-Xor-clause-below : goal.returns-in-Xor-clause-below
returns-in-Xor-clause-below c = xor_lt c.args.n c.args.one c.args.other c.requires.one c.requires.other
