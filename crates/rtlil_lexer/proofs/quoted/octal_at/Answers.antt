use Rattle.std.proofs.Common.{◌≡◌, ◌+◌, ◌-◌, ◌*◌, ◌∷◌, length, get_or, drop, refl, sym, ap, ◌∙◌, arith, true}
use Rattle.std.specs.List.{take_while}
use Rattle.rtlil_lexer.specs.Characters.{is_octal_digit}
use Rattle.rtlil_lexer.specs.Strings.{octal_behind}
use Rattle.rtlil_lexer.proofs.Escapes.{digits_more, digits_stop, digits_end, octal_step, octal_end, octal_below, octal_fit, octal_digit_below}
use Rattle.rtlil_lexer.proofs.quoted.octal_at.Goals as goal

pub returns-then-not-is_octal_digit-clause-value : goal.returns-then-not-is_octal_digit-clause-value
returns-then-not-is_octal_digit-clause-value c =
    let at = c.loop-at.at in
    let front = c.args.front.now in
    sym (ap (octal_behind c.loop-at.value) (digits_stop at (get_or front at 0) front c.loop-at-test.true refl (sym c.is_octal_digit.ensures ∙ c.if-not-is_octal_digit.true)) ∙ octal_end c.loop-at.value)
    ∙ c.loop-at.invariant.rest

pub returns-then-not-is_octal_digit-clause-length : goal.returns-then-not-is_octal_digit-clause-length
returns-then-not-is_octal_digit-clause-length c =
    let at = c.loop-at.at in
    let front = c.args.front.now in
    omega (arith, ap length (digits_stop at (get_or front at 0) front c.loop-at-test.true refl (sym c.is_octal_digit.ensures ∙ c.if-not-is_octal_digit.true)), c.loop-at.invariant.count)

pub overflow_mul-value : goal.overflow_mul-value
overflow_mul-value c = let fit = octal_fit c.loop-at.value c.loop-at.at c.loop-at.invariant.below (omega arith) in omega arith

pub overflow_add-value : goal.overflow_add-value
overflow_add-value c =
    let fit = octal_fit c.loop-at.value c.loop-at.at c.loop-at.invariant.below (omega arith) in
    let d = octal_digit_below (get_or c.args.front.now c.loop-at.at 0) (sym c.is_octal_digit.ensures ∙ c.if-not-is_octal_digit.false) in
    let e = c.from.ensures in
    omega arith

pub loop-at-preserved : goal.loop-at-preserved
loop-at-preserved c =
    let at = c.loop-at.at in
    let front = c.args.front.now in
    let b = get_or front at 0 in
    let is : is_octal_digit b ≡ true = sym c.is_octal_digit.ensures ∙ c.if-not-is_octal_digit.false in
    let more : take_while is_octal_digit (drop at front) ≡ b ∷ take_while is_octal_digit (drop (at + 1) front) = digits_more at b front c.loop-at-test.true refl is in
    let e : c.from.result ≡ b - 48 = c.from.ensures in
    record {
      rest = ap (λ d. octal_behind (c.loop-at.value * 8 + d) (take_while is_octal_digit (drop (at + 1) front))) e
          ∙ sym (ap (octal_behind c.loop-at.value) more ∙ octal_step c.loop-at.value b (take_while is_octal_digit (drop (at + 1) front)))
          ∙ c.loop-at.invariant.rest;
      count = omega (arith, ap length more, c.loop-at.invariant.count);
      below = omega (arith, octal_below c.loop-at.value at b c.loop-at.invariant.below is);
    }

pub returns-clause-value : goal.returns-clause-value
returns-clause-value c =
    sym (ap (octal_behind c.loop-at.value) (digits_end c.loop-at.at c.args.front.now c.loop-at-test.false) ∙ octal_end c.loop-at.value)
    ∙ c.loop-at.invariant.rest
