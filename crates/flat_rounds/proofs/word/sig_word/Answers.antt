use Rattle.std.proofs.Common.{◌∙◌}
use Rattle.circuit.specs.Signal.{digits_of_nets}
use Rattle.flat_rounds.proofs.Reading.{first_piece}
use Rattle.flat_rounds.proofs.word.sig_word.Goals as goal

pub returns-clause-value : goal.returns-clause-value
returns-clause-value c =
    c.piece_word.ensures.value ∙ first_piece (digits_of_nets c.args.nets.now) c.args.nets.now c.args.sig.now c.index-sig-0.result c.requires c.index-sig-0.is
