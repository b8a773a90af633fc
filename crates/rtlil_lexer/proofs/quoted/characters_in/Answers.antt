use Rattle.std.proofs.Common.{length, ap, arith}
use Rattle.rtlil_lexer.proofs.Escapes.{unescaped_end}
use Rattle.rtlil_lexer.proofs.quoted.characters_in.Goals as goal

pub returns : goal.returns
returns c = omega (arith, ap length (unescaped_end c.loop-at.at c.args.body.now c.loop-at-test.false), c.loop-at.invariant.count)
