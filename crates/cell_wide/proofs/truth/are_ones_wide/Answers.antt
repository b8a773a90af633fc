use Rattle.std.proofs.Common.{◌%◌, ◌^◌, ◌-◌, ◌∙◌, ap}
use Rattle.std.specs.Prelude.{◌==◌}
use Rattle.std.proofs.Math.Nat.{mod-eq_of_lt}
use Rattle.sim_base.specs.BitValue.{BitValue}
use Rattle.circuit.specs.Signal.{sig_number, sig_width}
use Rattle.signal_words.specs.Values.{digits_in}
use Rattle.signal_words.proofs.Signals.{are_bits}
use Rattle.cell_wide.proofs.truth.are_ones_wide.Goals as goal

pub returns-in-Some : goal.returns-in-Some
returns-in-Some c =
    c.same.ensures ∙ ap (λ (v : BitValue). (v.number % 2 ^ c.sig_width-width.result == 2 ^ c.sig_width-width.result - 1)) c.in-Some.ensures.value
    ∙ ap (λ w. (sig_number (digits_in c.args.nets.now) c.args.sig.now % 2 ^ w == 2 ^ w - 1)) c.sig_width-width.ensures.value
    ∙ ap (λ n. n == 2 ^ sig_width c.args.sig.now - 1) (mod-eq_of_lt (c.sig_width-width.ensures.below (digits_in c.args.nets.now) (are_bits c.args.nets.now)))

pub returns-in-None : goal.returns-in-None
returns-in-None c =
    c.same-in-None.ensures ∙ ap (λ (v : BitValue). (v.number % 2 ^ c.sig_width-width.result == 2 ^ c.sig_width-width.result - 1)) c.new.ensures
    ∙ ap (λ w. (sig_number (digits_in c.args.nets.now) c.args.sig.now % 2 ^ w == 2 ^ w - 1)) c.sig_width-width.ensures.value
    ∙ ap (λ n. n == 2 ^ sig_width c.args.sig.now - 1) (mod-eq_of_lt (c.sig_width-width.ensures.below (digits_in c.args.nets.now) (are_bits c.args.nets.now)))
