use Rattle.std.proofs.Common.{◌∙◌}
use Rattle.circuit.specs.Signal.{piece_number, piece_width, sig_number, sig_width}
use Rattle.signal_words.specs.Values.{digits_in}
use Rattle.signal_words.proofs.Signals.{same_value}
use Rattle.signal_words.proofs.Single.{one_number, one_width}
use Rattle.signal_words.proofs.run.one_piece.Goals as goal

pub returns-in-len1-clause-value : goal.returns-in-len1-clause-value
returns-in-len1-clause-value c =
    let digits = digits_in c.args.nets.now in
    let sig = c.args.sig.now in
    let piece = c.piece-item.result in
    c.new.ensures.value
    ∙ same_value (piece_width piece) (sig_width sig) (piece_number digits piece) (sig_number digits sig) (one_width sig piece c.in-len1.len_at_least c.in-len1.len_below c.piece-item.is)
    (one_number digits sig piece c.in-len1.len_at_least c.in-len1.len_below c.piece-item.is)
