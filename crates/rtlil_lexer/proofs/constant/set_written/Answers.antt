use Rattle.std.proofs.Common.{◌∙◌, refl, sym, ap}
use Rattle.sim_base.specs.BitValue.{BitValue}
use Rattle.rtlil_lexer.specs.Constants.{passes}
use Rattle.rtlil_lexer.proofs.Digits.{written_none, written_one, written_zero}
use Rattle.rtlil_lexer.proofs.constant.set_written.Goals.{then-passes, else-passes}
use Rattle.rtlil_lexer.proofs.constant.set_written.Goals as goal

pub loop-at-init : goal.loop-at-init
loop-at-init c = record {
  width = refl;
  number = c.requires.zero ∙ sym (written_none (passes c.args.sought) c.args.digits.now);
}

pub loop-at-preserved : goal.loop-at-preserved
loop-at-preserved c =
    let test = passes c.args.sought in
    let digits = c.args.digits.now in
    let at = c.loop-at.at in
    let inv = c.loop-at.invariant in
    elim c.if-passes.branch [
      | then-passes w ↦ record {
        width = ap (λ (b : BitValue). b.width) w.bits-is ∙ w.set.ensures.width ∙ inv.width;
        number = ap (λ (b : BitValue). b.number) w.bits-is ∙ written_one test digits at c.loop-at.bits.number w.set.new.self.number c.loop-at-test.true (sym c.passes.ensures ∙ w.if-passes.true) inv.number w.set.ensures.bits;
      }
      | else-passes w ↦ record {
        width = ap (λ (b : BitValue). b.width) w.bits-is ∙ inv.width;
        number = ap (λ (b : BitValue). b.number) w.bits-is ∙ written_zero test digits at c.loop-at.bits.number c.loop-at-test.true (sym c.passes.ensures ∙ w.if-passes.false) inv.number;
      }
    ]
