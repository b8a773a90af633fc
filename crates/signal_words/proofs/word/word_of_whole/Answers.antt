use Rattle.signal_words.proofs.Single.{no_word, one_word_is}
use Rattle.signal_words.proofs.word.word_of_whole.Goals as goal

pub returns-in-empty-clause-word : goal.returns-in-empty-clause-word
returns-in-empty-clause-word c = no_word c.args.nets.now c.args.sig.now c.in-empty.len_below

pub returns-in-len1-clause-word : goal.returns-in-len1-clause-word
returns-in-len1-clause-word c =
    one_word_is c.args.nets.now c.args.sig.now c.piece-item.result c.word_of_whole_piece.result c.in-len1.len_at_least c.in-len1.len_below c.piece-item.is
    c.word_of_whole_piece.ensures.small c.word_of_whole_piece.ensures.width c.word_of_whole_piece.ensures.number c.word_of_whole_piece.ensures.below
