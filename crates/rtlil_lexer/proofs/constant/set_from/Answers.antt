use Rattle.std.proofs.Common.{◌≤◌, ◌<◌, ◌^◌, ◌∙◌, arith}
use Rattle.rtlil_lexer.proofs.Digits.{set_ones}
use Rattle.rtlil_lexer.proofs.constant.set_from.Goals as goal

pub loop-at-preserved : goal.loop-at-preserved
loop-at-preserved c =
    let at = c.loop-at.at in
    let n = c.min-part.result in
    let old = c.loop-at.bits.number in
    let inv = c.loop-at.invariant in
    let small : n ≤ 64 = omega (arith, c.min-part.ensures) in
    let below : old < 2 ^ at = omega (arith, inv.number, c.requires.below) in
    record {
      width = c.put_field.ensures.width ∙ inv.width;
      from = omega (arith, inv.from);
      within = omega (arith, c.min-part.ensures, c.loop-at-test.true);
      number = omega (arith, set_ones at n old c.put_field.new.self.number small below c.put_field.ensures.bits, inv.number);
    }
