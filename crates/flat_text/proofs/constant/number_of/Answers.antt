use Rattle.std.proofs.Common.{sym, ◌∙◌, arith}
use Rattle.flat_text.proofs.Numbers.{nine_digits_below}
use Rattle.flat_text.proofs.constant.number_of.Goals as goal

pub overflow_cast-result : goal.overflow_cast-result
overflow_cast-result c =
    let below = nine_digits_below c.in_ok-number.number c.args.word.now (sym c.number_in_digits.ensures ∙ c.in_ok-number.was) in
    omega arith
