use Rattle.std.proofs.Common.{◌≡◌, ◌-◌, ◌+◌, ◌*◌, ◌^◌, get_or, ap, sym, ◌∙◌, arith, length, drop, refl}
use Rattle.rtlil_signals.specs.Values.{bytes_number}
use Rattle.rtlil_signals.proofs.Digits.{bytes_more, bytes_none}
use Rattle.rtlil_signals.proofs.value.put_bytes.Goals as goal

pub loop-done-init : goal.loop-done-init
loop-done-init c = record { width = refl; number = c.requires.zero ∙ bytes_none c.args.bytes.now; below = omega arith }

pub loop-done-preserved : goal.loop-done-preserved
loop-done-preserved c =
    let b = c.args.bytes.now in
    let done = c.loop-done.done in
    record {
      width = c.put_byte.ensures.width ∙ c.loop-done.invariant.width;
      number = c.put_byte.ensures.number ∙ ap (λ n. get_or b (length b - 1 - done) 0 * 2 ^ (8 * done) + n) c.loop-done.invariant.number ∙ sym (bytes_more b done c.loop-done-test.true);
      below = c.put_byte.ensures.below;
    }
