use Rattle.std.proofs.Common.{◌%◌, ◌^◌, ◌∙◌, ap}
use Rattle.std.specs.Prelude.{◌==◌}
use Rattle.std.proofs.Math.Nat.{mod-eq_of_lt}
use Rattle.sim_base.specs.BitValue.{BitValue}
use Rattle.circuit.specs.Signal.{sig_number}
use Rattle.signal_words.specs.Values.{digits_in}
use Rattle.signal_words.proofs.Signals.{are_bits}
use Rattle.cell_wide.proofs.operand.is_zero.Goals as goal

pub returns-in-Some : goal.returns-in-Some
returns-in-Some c =
    c.same.ensures ∙ ap (λ (v : BitValue). (v.number % 2 ^ c.sig_width-width.result == 0)) c.in-Some.ensures.value
    ∙ ap (λ w. (sig_number (digits_in c.args.nets.now) c.args.sig.now % 2 ^ w == 0)) c.sig_width-width.ensures.value
    ∙ ap (λ n. n == 0) (mod-eq_of_lt (c.sig_width-width.ensures.below (digits_in c.args.nets.now) (are_bits c.args.nets.now)))

pub returns-in-None : goal.returns-in-None
returns-in-None c =
    c.same-in-None.ensures ∙ ap (λ (v : BitValue). (v.number % 2 ^ c.sig_width-width.result == 0)) c.new.ensures
    ∙ ap (λ w. (sig_number (digits_in c.args.nets.now) c.args.sig.now % 2 ^ w == 0)) c.sig_width-width.ensures.value
    ∙ ap (λ n. n == 0) (mod-eq_of_lt (c.sig_width-width.ensures.below (digits_in c.args.nets.now) (are_bits c.args.nets.now)))
