use Rattle.signal_words.proofs.Single.{whole_word_is}
use Rattle.signal_words.proofs.word.whole_word.Goals as goal

pub returns-in-len1-clause-value : goal.returns-in-len1-clause-value
returns-in-len1-clause-value c =
    whole_word_is c.args.nets.now c.args.sig.now c.piece-item.result c.args.width c.piece_of_width.result c.in-len1.len_at_least c.in-len1.len_below c.piece-item.is
    c.piece_of_width.ensures.width c.piece_of_width.ensures.value
