use Rattle.std.proofs.Common.{ap, ◌∙◌}
use Rattle.circuit.specs.Signal.{sig_number, sig_width}
use Rattle.signal_words.specs.Values.{digits_in}
use Rattle.signal_words.proofs.Signals.{are_bits}
use Rattle.sim_base.specs.BitValue.{BitValue}
use Rattle.cell_words.proofs.Pieces.{two_words}
use Rattle.cell_words.proofs.port.port_of.Goals as goal

pub returns-clause-number : goal.returns-clause-number
returns-clause-number c =
    two_words (sig_width c.args.sig.now) (sig_number (digits_in c.args.nets.now) c.args.sig.now) c.from-2.result c.from.result c.new-reader.result c.take-low.new.self
    c.requires.narrow (c.sig_width-width.ensures.below (digits_in c.args.nets.now) (are_bits c.args.nets.now)) (ap (λ (v : BitValue). v.number) c.new-reader.ensures)
    (c.from-2.ensures ∙ c.take-low.ensures.word) c.take-low.ensures.rest (c.from.ensures ∙ c.take-high.ensures.word)
