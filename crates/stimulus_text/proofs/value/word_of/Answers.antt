use Rattle.std.proofs.Common.{◌+◌, ◌*◌, ◌^◌, ◌<◌, ◌≤◌, ◌∙◌, sym, ap, arith, length, get_or, drop}
use Rattle.std.specs.Char.{digit_value}
use Rattle.std.proofs.lemmas.Bool.Decides.{nat_tests}
use Rattle.sim_base.specs.Digits.{hexadecimal_after}
use Rattle.stimulus_text.proofs.Hexadecimal.{number_empty, number_some, after_more, after_stop, after_all, power_fits, digit_below}
use Rattle.stimulus_text.proofs.value.word_of.Goals as goal

pub returns-then-is_empty : goal.returns-then-is_empty
returns-then-is_empty c = sym (number_empty c.args.text.now (grind (arith, nat_tests)))

pub returns-then-digit-ge16 : goal.returns-then-digit-ge16
returns-then-digit-ge16 c =
    sym (number_some c.args.text.now (omega arith) ∙ c.loop-byte.invariant.rest
    ∙ after_stop c.loop-byte.number c.loop-byte.byte-index c.args.text.now c.loop-byte-test.true (omega arith))

pub overflow_mul-number : goal.overflow_mul-number
overflow_mul-number c = let p = power_fits c.loop-byte.byte-index (omega arith) in let b : c.loop-byte.number < 16 ^ c.loop-byte.byte-index = c.loop-byte.invariant.below in omega arith

pub overflow_add-number : goal.overflow_add-number
overflow_add-number c = let p = power_fits c.loop-byte.byte-index (omega arith) in let b : c.loop-byte.number < 16 ^ c.loop-byte.byte-index = c.loop-byte.invariant.below in omega arith

pub loop-byte-preserved : goal.loop-byte-preserved
loop-byte-preserved c =
    let lt : digit_value (get_or c.args.text.now c.loop-byte.byte-index 0) < 16 = omega arith in
    record {
      rest = c.loop-byte.invariant.rest ∙ after_more c.loop-byte.number c.loop-byte.byte-index c.args.text.now c.loop-byte-test.true lt
          ∙ ap (λ d. hexadecimal_after (c.loop-byte.number * 16 + d) (drop (c.loop-byte.byte-index + 1) c.args.text.now)) (sym c.digit_of-digit.ensures);
      below = digit_below c.loop-byte.number c.loop-byte.byte-index c.digit_of-digit.result c.loop-byte.invariant.below (omega arith);
    }

pub returns : goal.returns
returns c =
    let some : 1 ≤ length c.args.text.now = grind (arith, nat_tests) in
    sym (number_some c.args.text.now some ∙ c.loop-byte.invariant.rest
    ∙ after_all c.loop-byte.number c.loop-byte.byte-index c.args.text.now (omega (arith, c.loop-byte-test.false)))
