use Rattle.std.proofs.Common.{◌∙◌, ap, arith}
use Rattle.sim_base.specs.BitValue.{digit_after_copy}
use Rattle.stimulus_text.proofs.Hexadecimal.{word_put, value_is}
use Rattle.stimulus_text.proofs.value.put_low.Goals as goal

pub returns : goal.returns
returns c =
    value_is c.put_field.new.self c.args.into.now.width c.args.number
    (c.put_field.ensures.width ∙ ap (λ v. v.width) c.clear.ensures)
    (word_put c.args.number c.put_field.new.self.number (omega arith)
    (λ j. c.put_field.ensures.bits j ∙ ap (λ old. digit_after_copy 0 c.args.number 0 64 old j) (ap (λ v. v.number) c.clear.ensures)))
