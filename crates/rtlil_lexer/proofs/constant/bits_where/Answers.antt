use Rattle.std.proofs.Common.{◌≡◌, ◌+◌, ◌^◌, ◌∙◌, sym, ap, arith}
use Rattle.sim_base.specs.BitValue.{BitValue}
use Rattle.rtlil_lexer.specs.Constants.{passes}
use Rattle.rtlil_lexer.proofs.Digits.{number_below, whole_on, whole_off}
use Rattle.rtlil_lexer.proofs.constant.bits_where.Goals.{then-passes, else-passes}
use Rattle.rtlil_lexer.proofs.constant.bits_where.Goals as goal

pub set_from-requires-clause-below : goal.set_from-requires-clause-below
set_from-requires-clause-below c = omega (arith, c.set_written.ensures.number, number_below (passes c.args.sought) c.args.digits.now)

pub returns : goal.returns
returns c =
    let test = passes c.args.sought in
    let width = c.args.width in
    let digits = c.args.digits.now in
    let written = c.set_written.new.bits in
    let wide : written.width ≡ width = c.set_written.ensures.width ∙ ap (λ (b : BitValue). b.width) c.in_ok-bits.ensures in
    let is : c.passes.result ≡ test c.filler.result = c.passes.ensures in
    let filled_by = ap test c.filler.ensures in
    elim c.if-passes.branch [
      | then-passes w ↦
          w.bits-is
          ∙ whole_on test width written.number digits w.set_from.new.bits c.requires (sym (is ∙ filled_by) ∙ w.if-passes.true) c.set_written.ensures.number (w.set_from.ensures.width ∙ wide)
          (w.set_from.ensures.number ∙ ap (λ n. 2 ^ n + written.number) wide)
      | else-passes w ↦ w.bits-is ∙ whole_off test width digits written (sym (is ∙ filled_by) ∙ w.if-passes.false) wide c.set_written.ensures.number
    ]
