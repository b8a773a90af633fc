use Rattle.std.proofs.Common.{◌+◌, ◌/◌, ◌^◌, ◌∙◌, ap, arith}
use Rattle.std.specs.Int.{bit_at}
use Rattle.sim_base.proofs.Field.{bit_at_mod, bit_at_shr}
use Rattle.sim_base.proofs.Copies.{copied_join}
use Rattle.sim_base.proofs.Told.{told_more}
use Rattle.sim_base.proofs.bits.Bits.copy.Goals as goal

pub loop-done-preserved : goal.loop-done-preserved
loop-done-preserved c = record {
  done = omega (arith, c.min-part.ensures, c.loop-done-test.true);
  width = c.put_field-more.ensures.width ∙ c.loop-done.invariant.width;
  below = c.put_field-more.ensures.below;
  bits = copied_join c.args.at c.args.from.now.number c.args.from_at c.loop-done.done c.min-part.result c.args.self.now.number c.loop-done.self.number c.put_field-more.new.self.number c.field-v.result
      c.loop-done.invariant.bits c.put_field-more.ensures.bits
      (λ i lt. ap (λ x. bit_at x i) c.field-v.ensures ∙ bit_at_mod (c.args.from.now.number / 2 ^ (c.args.from_at + c.loop-done.done)) c.min-part.result i lt ∙ bit_at_shr c.args.from.now.number (c.args.from_at + c.loop-done.done) i);
  told = told_more c.args.at c.args.from.now.number c.args.from_at c.loop-done.done c.min-part.result c.args.self.now.number c.loop-done.self.number c.put_field-more.new.self.number c.field-v.result c.loop-done.changed c.put_field-more.result
      c.loop-done.invariant.bits c.put_field-more.ensures.bits c.loop-done.invariant.told c.put_field-more.ensures.changed;
}
