use Rattle.std.proofs.Common.{arith, min}
use Rattle.rtlil_lexer.specs.Numbers.{decimal}
use Rattle.rtlil_lexer.proofs.Decimals.{capped_more, capped_all}
use Rattle.rtlil_lexer.proofs.number.capped_decimal.Goals as goal

pub loop-digit-preserved : goal.loop-digit-preserved
loop-digit-preserved c = record {
  same = capped_more 4294967296 c.loop-digit.number c.with_digit-number.result c.loop-digit.digit-index (min 4294967296 (decimal c.args.digits.now)) c.args.digits.now c.with_digit-number.ensures c.loop-digit-test.true c.loop-digit.invariant.same;
  capped = omega (arith, c.with_digit-number.ensures);
}

pub returns : goal.returns
returns c = capped_all 4294967296 c.loop-digit.number c.loop-digit.digit-index (min 4294967296 (decimal c.args.digits.now)) c.args.digits.now c.loop-digit-test.false c.loop-digit.invariant.capped c.loop-digit.invariant.same
