use Rattle.std.proofs.Common.{◌≡◌, ◌%◌, ◌^◌, ◌∙◌, ap, arith}
use Rattle.std.proofs.Math.Nat.{mod-eq_of_lt}
use Rattle.sim_base.specs.BitValue.{BitValue}
use Rattle.circuit.specs.Output.{lowest_from}
use Rattle.circuit.specs.Signal.{sig_number, sig_width}
use Rattle.signal_words.specs.Values.{digits_in}
use Rattle.signal_words.proofs.Signals.{are_bits}
use Rattle.cell_wide.proofs.Selections.{lowest_most}
use Rattle.cell_wide.proofs.select.lowest_bit.Goals as goal

place : (c : goal.After-lowest) → c.lowest.result ≡ lowest_from (sig_width c.args.sig.now) 0 (sig_number (digits_in c.args.nets.now) c.args.sig.now)
place c =
    c.lowest.ensures ∙ ap (λ (v : BitValue). lowest_from c.sig_width-width.result 0 (v.number % 2 ^ c.sig_width-width.result)) c.new-number.ensures
    ∙ ap (λ w. lowest_from w 0 (sig_number (digits_in c.args.nets.now) c.args.sig.now % 2 ^ w)) c.sig_width-width.ensures.value
    ∙ ap (lowest_from (sig_width c.args.sig.now) 0) (mod-eq_of_lt (c.sig_width-width.ensures.below (digits_in c.args.nets.now) (are_bits c.args.nets.now)))

pub returns-clause-place : goal.returns-clause-place
returns-clause-place c = place c

pub returns-clause-most : goal.returns-clause-most
returns-clause-most c = omega (arith, place c, lowest_most (sig_width c.args.sig.now) 0 (sig_number (digits_in c.args.nets.now) c.args.sig.now))
