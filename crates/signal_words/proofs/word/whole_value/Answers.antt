use Rattle.signal_words.proofs.Single.{one_value_is}
use Rattle.signal_words.proofs.word.whole_value.Goals as goal

pub returns-in-len1-clause-value : goal.returns-in-len1-clause-value
returns-in-len1-clause-value c =
    one_value_is c.args.nets.now c.args.sig.now c.piece-item.result c.piece_value.result c.in-len1.len_at_least c.in-len1.len_below c.piece-item.is c.piece_value.ensures.value
