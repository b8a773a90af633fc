use Rattle.std.proofs.Common.{◌≡◌, ◌+◌, ◌-◌, ◌*◌, ◌^◌, ◌∙◌, sym, ap, rules, length, drop, None}
use Rattle.std.proofs.lemmas.List.{take_rest}
use Rattle.sim_base.specs.TimeText.{read_time, time_of}
use Rattle.sim_base.specs.Digits.{digits_number}
use Rattle.sim_base.proofs.Numerals.{digits_number_some}
use Rattle.sim_base.proofs.TimeTexts.{read_fraction, read_parts}
use Rattle.sim_base.proofs.time.Time.read.Goals as goal

pub returns-in_err-dot : goal.returns-in_err-dot
unfolding read_time
returns-in_err-dot c = search rules

pub returns-in_err-seconds : goal.returns-in_err-seconds
unfolding read_time
returns-in_err-seconds c = search rules

pub returns-in_err-digits : goal.returns-in_err-digits
returns-in_err-digits c =
    let rest = take_rest c.args.text.now (c.in_ok-dot.dot + 1) in
    let none : digits_number 15 (drop (c.in_ok-dot.dot + 1) c.args.text.now) ≡ None = ap (digits_number 15) (sym rest) ∙ sym c.in_err-digits.ensures in
    let read = read_fraction c.args.text.now c.in_ok-dot.dot c.in_ok-seconds.seconds (sym c.dot_of.ensures ∙ c.in_ok-dot.was) (sym c.number_in_digits.ensures ∙ c.in_ok-seconds.was) none in
    c.from_residual-in_err-digits.ensures ∙ sym read

pub overflow_sub-missing : goal.overflow_sub-missing
overflow_sub-missing c = digits_number_some 15 c.in_ok-digits.digits _ (sym c.number_in_digits-2.ensures ∙ c.in_ok-digits.was)

pub returns : goal.returns
returns c =
    let rest = take_rest c.args.text.now (c.in_ok-dot.dot + 1) in
    let pow : c.pow.result ≡ 10 ^ (15 - length (drop (c.in_ok-dot.dot + 1) c.args.text.now)) = c.pow.ensures ∙ ap (λ xs. 10 ^ (15 - length xs)) rest in
    c.of.ensures ∙ ap (λ p. time_of (c.in_ok-seconds.seconds * 10 ^ 15 + c.in_ok-digits.digits * p)) pow
    ∙ sym (read_parts c.args.text.now c.in_ok-dot.dot c.in_ok-seconds.seconds c.in_ok-digits.digits (sym c.dot_of.ensures ∙ c.in_ok-dot.was) (sym c.number_in_digits.ensures ∙ c.in_ok-seconds.was)
    (ap (digits_number 15) (sym rest) ∙ sym c.number_in_digits-2.ensures ∙ c.in_ok-digits.was))
