use Rattle.std.proofs.Common.{◌≡◌, ◌+◌, ◌-◌, ◌*◌, ◌≤◌, ◌∙◌, refl, sym, ap, arith, drop, length, true, get_or}
use Rattle.std.specs.Char.{is_ascii_digit}
use Rattle.std.proofs.lemmas.Bool.Decides.{nat_tests}
use Rattle.sim_base.specs.Digits.{decimal_after}
use Rattle.sim_base.proofs.Numerals.{digits_more, digits_none, digits_all, digits_number_within, digits_number_empty, digits_number_long, digits_fit, digits_below, digit_below}
use Rattle.sim_base.proofs.digits.number_in_digits.Goals.{then-is_empty-via-then-is_empty, then-is_empty-via-else-is_empty+then-text-most}
use Rattle.sim_base.proofs.digits.number_in_digits.Goals as goal

pub returns-then-is_empty : goal.returns-then-is_empty
returns-then-is_empty c =
    elim c.then-is_empty.branch [
      | then-is_empty-via-then-is_empty w ↦ sym (digits_number_empty c.args.most c.args.text.now (grind (arith, nat_tests)))
      | then-is_empty-via-else-is_empty+then-text-most w ↦ sym (digits_number_long c.args.most c.args.text.now w.if-text-most.true)
    ]

pub returns-then-not-is_ascii_digit : goal.returns-then-not-is_ascii_digit
returns-then-not-is_ascii_digit c =
    let some : 1 ≤ length c.args.text.now = omega arith in
    sym (digits_number_within c.args.most c.args.text.now some c.if-text-most.false ∙ sym c.loop-byte.invariant.rest
    ∙ digits_none c.loop-byte.number c.loop-byte.byte-index (get_or c.args.text.now c.loop-byte.byte-index 0) c.args.text.now c.loop-byte-test.true refl (sym c.is_ascii_digit.ensures.value ∙ c.if-not-is_ascii_digit.true))

pub overflow_mul-number : goal.overflow_mul-number
overflow_mul-number c = let fit = digits_fit c.loop-byte.number c.loop-byte.byte-index c.loop-byte.invariant.below (omega arith) in omega arith

pub overflow_add-number : goal.overflow_add-number
overflow_add-number c = let fit = digits_fit c.loop-byte.number c.loop-byte.byte-index c.loop-byte.invariant.below (omega arith) in
    let d = digit_below (get_or c.args.text.now c.loop-byte.byte-index 0) (sym c.is_ascii_digit.ensures.value ∙ c.if-not-is_ascii_digit.false) in
    let e = c.from.ensures in
    omega arith

pub loop-byte-preserved : goal.loop-byte-preserved
loop-byte-preserved c =
    let x = get_or c.args.text.now c.loop-byte.byte-index 0 in
    let is : is_ascii_digit x ≡ true = sym c.is_ascii_digit.ensures.value ∙ c.if-not-is_ascii_digit.false in
    let e : c.from.result ≡ x - 48 = c.from.ensures in
    record {
      rest = ap (λ d. decimal_after (c.loop-byte.number * 10 + d) (drop (c.loop-byte.byte-index + 1) c.args.text.now)) e
          ∙ sym (digits_more c.loop-byte.number c.loop-byte.byte-index x c.args.text.now c.loop-byte-test.true refl is)
          ∙ c.loop-byte.invariant.rest;
      below = omega (arith, digits_below c.loop-byte.number c.loop-byte.byte-index x c.loop-byte.invariant.below is);
    }

pub returns : goal.returns
returns c =
    let some : 1 ≤ length c.args.text.now = grind (arith, nat_tests) in
    sym (digits_number_within c.args.most c.args.text.now some c.if-text-most.false ∙ sym c.loop-byte.invariant.rest
    ∙ digits_all c.loop-byte.number c.loop-byte.byte-index c.args.text.now c.loop-byte-test.false)
