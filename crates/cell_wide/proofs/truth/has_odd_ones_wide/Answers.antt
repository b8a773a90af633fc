use Rattle.std.proofs.Common.{◌%◌, ◌^◌, count_ones, sym, ◌∙◌, ap}
use Rattle.std.specs.Prelude.{◌==◌}
use Rattle.sim_base.specs.BitValue.{BitValue}
use Rattle.circuit.specs.Signal.{sig_number, sig_width}
use Rattle.signal_words.specs.Values.{digits_in}
use Rattle.cell_wide.proofs.Truths.{ones_count}
use Rattle.cell_wide.proofs.truth.has_odd_ones_wide.Goals as goal

pub returns-in-Some : goal.returns-in-Some
returns-in-Some c =
    c.is_odd.ensures ∙ ap (λ (v : BitValue). (count_ones (v.number % 2 ^ c.sig_width-width.result) % 2 == 1)) c.in-Some.ensures.value
    ∙ ap (λ w. (count_ones (sig_number (digits_in c.args.nets.now) c.args.sig.now % 2 ^ w) % 2 == 1)) c.sig_width-width.ensures.value
    ∙ ap (λ n. (n % 2 == 1)) (sym (ones_count (sig_width c.args.sig.now) (sig_number (digits_in c.args.nets.now) c.args.sig.now)))

pub returns-in-None : goal.returns-in-None
returns-in-None c =
    c.is_odd-in-None.ensures ∙ ap (λ (v : BitValue). (count_ones (v.number % 2 ^ c.sig_width-width.result) % 2 == 1)) c.new.ensures
    ∙ ap (λ w. (count_ones (sig_number (digits_in c.args.nets.now) c.args.sig.now % 2 ^ w) % 2 == 1)) c.sig_width-width.ensures.value
    ∙ ap (λ n. (n % 2 == 1)) (sym (ones_count (sig_width c.args.sig.now) (sig_number (digits_in c.args.nets.now) c.args.sig.now)))
