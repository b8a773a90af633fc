use Rattle.std.proofs.Common.{ap, sym}
use Rattle.circuit.specs.Signal.{sig_number, sig_width}
use Rattle.signal_words.specs.Values.{digits_in}
use Rattle.signal_words.proofs.Signals.{are_bits}
use Rattle.sim_base.specs.BitValue.{BitValue}
use Rattle.cell_words.proofs.Distances.{left_fits, left_near, left_far}
use Rattle.cell_words.proofs.amount.distance.Goals as goal

pub is_rest-requires : goal.is_rest-requires
is_rest-requires c =
    left_fits c.sig_width-width.result (sig_width c.args.sig.now) (sig_number (digits_in c.args.nets.now) c.args.sig.now) c.min-n.result c.new-reader.result c.take-word.new.self
    c.sig_width-width.ensures.value (c.sig_width-width.ensures.below (digits_in c.args.nets.now) (are_bits c.args.nets.now)) c.min-n.ensures (ap (λ (v : BitValue). v.number) c.new-reader.ensures) c.take-word.ensures.rest

pub returns-then-not-is_rest-clause-value : goal.returns-then-not-is_rest-clause-value
returns-then-not-is_rest-clause-value c =
    left_far c.args.ones c.sig_width-width.result (sig_width c.args.sig.now) (sig_number (digits_in c.args.nets.now) c.args.sig.now) c.min-n.result c.new-reader.result c.take-word.new.self
    c.sig_width-width.ensures.value (c.sig_width-width.ensures.below (digits_in c.args.nets.now) (are_bits c.args.nets.now)) c.min-n.ensures (ap (λ (v : BitValue). v.number) c.new-reader.ensures) c.take-word.ensures.rest
    (sym c.if-not-is_rest.ensures)

pub returns-clause-value : goal.returns-clause-value
returns-clause-value c =
    left_near c.args.ones c.sig_width-width.result (sig_width c.args.sig.now) (sig_number (digits_in c.args.nets.now) c.args.sig.now) c.min-n.result c.take-word.result c.flipped.result c.min.result c.from.result
    c.new-reader.result c.take-word.new.self
    c.sig_width-width.ensures.value (c.sig_width-width.ensures.below (digits_in c.args.nets.now) (are_bits c.args.nets.now)) c.min-n.ensures (ap (λ (v : BitValue). v.number) c.new-reader.ensures) c.take-word.ensures.rest
    (sym c.if-not-is_rest.ensures) c.take-word.ensures.word c.flipped.ensures c.min.ensures c.from.ensures
