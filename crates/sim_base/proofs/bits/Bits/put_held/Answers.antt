use Rattle.std.proofs.Common.{◌≡◌, ◌-◌, ◌*◌, ◌^◌, ◌<◌, ◌∙◌, ℕ, Option, Some, min, length, drop, get_or, sym, ap, subst, arith}
use Rattle.std.specs.Char.{digit_value}
use Rattle.sim_base.specs.Digits.{hexadecimal_after}
use Rattle.sim_base.specs.BitValue.{bit_value, digit_after_copy}
use Rattle.sim_base.proofs.HexadecimalTexts.{rest_none, rest_below, held_number, held_digit, put_term, no_term, value_is}
use Rattle.sim_base.proofs.bits.Bits.put_held.Goals as goal

pub loop-at-init : goal.loop-at-init
loop-at-init c =
    record { width = ap (λ v. v.width) c.clear.ensures; read = rest_none c.args.text.now ∙ ap (λ v. Some v.number) (sym c.clear.ensures) }

pub loop-at-preserved-then-room-gt0 : goal.loop-at-preserved-then-room-gt0
loop-at-preserved-then-room-gt0 c =
    let text = c.args.text.now in
    let at = c.loop-at.at in
    let width = c.args.self.now.width in
    let old = c.loop-at.self.number in
    let d = digit_value (get_or text (at - 1) 0) in
    let p = length text - at in
    let place : length text - 1 - (at - 1) ≡ p = omega arith in
    let room = c.room_at-room.ensures ∙ ap (λ k. min 4 (c.width-width.result - 4 * k)) place ∙ ap (λ w. min 4 (w - 4 * p)) c.width-width.ensures.value in
    let digit = held_digit width old at text c.requires c.loop-at-test.true c.loop-at.auto.at c.loop-at.invariant.read in
    let put = put_term d old c.put_field.new.self.number p c.room_at-room.result (rest_below old at text c.loop-at.invariant.read) (subst (λ r. d < 2 ^ r) (sym room) digit.0)
    (λ j. c.put_field.ensures.bits j ∙ ap (λ k. digit_after_copy (4 * k) c.digit_of.result 0 c.room_at-room.result old j) place ∙ ap (λ x. digit_after_copy (4 * p) x 0 c.room_at-room.result old j) c.digit_of.ensures) in
    record { width = c.put_field.ensures.width ∙ c.loop-at.invariant.width; read = digit.1 ∙ ap Some (sym put) }

pub loop-at-preserved : goal.loop-at-preserved
loop-at-preserved c =
    let text = c.args.text.now in
    let at = c.loop-at.at in
    let width = c.args.self.now.width in
    let old = c.loop-at.self.number in
    let d = digit_value (get_or text (at - 1) 0) in
    let p = length text - at in
    let place : length text - 1 - (at - 1) ≡ p = omega arith in
    let room = c.room_at-room.ensures ∙ ap (λ k. min 4 (c.width-width.result - 4 * k)) place ∙ ap (λ w. min 4 (w - 4 * p)) c.width-width.ensures.value in
    let digit = held_digit width old at text c.requires c.loop-at-test.true c.loop-at.auto.at c.loop-at.invariant.read in
    record { width = c.loop-at.invariant.width; read = digit.1 ∙ ap Some (no_term d old p c.room_at-room.result (subst (λ r. d < 2 ^ r) (sym room) digit.0) (omega arith)) }

pub returns : goal.returns
returns c =
    let text = c.args.text.now in
    let width = c.args.self.now.width in
    let h = held_number width text c.requires in
    let at : c.loop-at.at ≡ 0 = omega arith in
    let read = subst (λ k. hexadecimal_after 0 (drop k text) ≡ Some c.loop-at.self.number) at c.loop-at.invariant.read in
    let same : ◌≡◌ {A = Option ℕ} (Some h.0) (Some c.loop-at.self.number) = sym h.2 ∙ read in
    let number : h.0 ≡ c.loop-at.self.number = cc in
    ap (λ w. Some (bit_value w c.loop-at.self.number)) c.loop-at.invariant.width
    ∙ sym (value_is width c.loop-at.self.number text h.1 read (subst (λ n. n < 2 ^ width) number h.3))
