use Rattle.std.proofs.Common.{◌*◌, ◌-◌, ◌/◌, ◌%◌, ◌^◌, ◌∙◌, min, sym, ap}
use Rattle.sim_base.proofs.HexadecimalTexts.{digit_within, digit_above}
use Rattle.sim_base.proofs.bits.Bits.hexadecimal_digit.Goals as goal

pub returns-then-room-eq0 : goal.returns-then-room-eq0
returns-then-room-eq0 c =
    let n = c.args.self.now.number in
    let place = c.args.place in
    let room = c.room_at-room.ensures ∙ ap (λ w. min 4 (w - 4 * place)) c.width.ensures.value in
    sym (digit_above n c.args.self.now.width place c.width.ensures.below (sym room ∙ c.if-room-eq0.true))

pub returns-else-room-eq0 : goal.returns-else-room-eq0
returns-else-room-eq0 c =
    let n = c.args.self.now.number in
    let place = c.args.place in
    let room = c.room_at-room.ensures ∙ ap (λ w. min 4 (w - 4 * place)) c.width.ensures.value in
    c.field.ensures ∙ ap (λ k. n / 2 ^ (4 * place) % 2 ^ k) room ∙ digit_within n c.args.self.now.width place c.width.ensures.below
