use Rattle.std.proofs.Common.{◌≡◌, ◌+◌, ◌-◌, ◌*◌, ◌%◌, ◌^◌, ◌<◌, ◌≤◌, ◌∙◌, Some, min, length, drop, get_or, is_some, true, false, not, sym, ap, subst, inl, inr, arith}
use Rattle.std.specs.Char.{digit_value}
use Rattle.std.proofs.lemmas.Bool.{cases_eq}
use Rattle.std.proofs.lemmas.Bool.Decides.{nat_tests}
use Rattle.std.proofs.lemmas.Nat.{pow_pos}
use Rattle.sim_base.specs.Digits.{hexadecimal_after}
use Rattle.sim_base.proofs.HexadecimalTexts.{rest_none, after_more, rest_below, term_below, digit_fits, value_is, value_empty, value_exceeds}
use Rattle.sim_base.proofs.hexadecimal.is_held.Goals as goal

pub loop-at-init : goal.loop-at-init
loop-at-init c = (0, rest_none c.args.text.now, pow_pos c.args.width)

pub loop-at-preserved : goal.loop-at-preserved
loop-at-preserved c =
    let text = c.args.text.now in
    let at = c.loop-at.at in
    let n = c.loop-at.invariant.0 in
    let read = c.loop-at.invariant.1 in
    let place : length text - 1 - (at - 1) ≡ length text - at = omega arith in
    let room = c.room_at-room.ensures ∙ ap (λ p. min 4 (c.args.width - 4 * p)) place in
    let d = digit_value (get_or text (at - 1) 0) in
    let fits = digit_fits d c.room_at-room.result (c.args.width - 4 * (length text - at)) room (subst (λ x. x < 1 * 2 ^ c.room_at-room.result % 2 ^ 64) c.digit_of.ensures c.if-digit_of-room.false) in (
      d * 16 ^ (length text - at) + n,
      after_more n at text c.loop-at-test.true c.loop-at.auto.at fits.0 read,
      term_below d n c.args.width (length text - at) fits.1 c.loop-at.invariant.2 (rest_below n at text read),
    )

pub returns-then-digit_of-room : goal.returns-then-digit_of-room
returns-then-digit_of-room c =
    let text = c.args.text.now in
    let at = c.loop-at.at in
    let place : length text - 1 - (at - 1) ≡ length text - at = omega arith in
    let room = c.room_at-room.ensures ∙ ap (λ p. min 4 (c.args.width - 4 * p)) place in
    let exceeds = subst (λ x. 1 * 2 ^ c.room_at-room.result % 2 ^ 64 ≤ x) c.digit_of.ensures c.if-digit_of-room.true in
    sym (ap is_some (value_exceeds c.args.width c.room_at-room.result c.loop-at.invariant.0 at text c.loop-at-test.true c.loop-at.auto.at c.loop-at.invariant.1 room exceeds))

pub returns : goal.returns
returns c =
    let text = c.args.text.now in
    let n = c.loop-at.invariant.0 in
    elim (cases_eq (length text) 0) [
      | inl none ↦ (let empty : c.is_empty.result ≡ true = grind (arith, nat_tests) in ap not empty ∙ sym (ap is_some (value_empty c.args.width text none)))
      | inr some ↦
          (let other : c.is_empty.result ≡ false = grind (arith, nat_tests) in
          let at : c.loop-at.at ≡ 0 = omega arith in
          ap not other ∙ sym (ap is_some (value_is c.args.width n text (omega arith) (subst (λ k. hexadecimal_after 0 (drop k text) ≡ Some n) at c.loop-at.invariant.1) c.loop-at.invariant.2)))
    ]
