use Rattle.std.proofs.Common.{subst}
use Rattle.std.specs.Prelude.{IfSome}
use Rattle.signal_words.specs.Values.{IsWordOf}
use Rattle.cell_wide.proofs.Copied.{word_copied}
use Rattle.cell_wide.proofs.select.copy_pieces.Goals as goal

pub returns-in-Some : goal.returns-in-Some
returns-in-Some c =
    let word = c.in-Some.word in
    word_copied c.args.nets.now c.args.sig.now word.width word.number (subst (λ o. IfSome o (λ w. IsWordOf c.args.nets.now c.args.sig.now w.width w.number)) c.in-Some.is c.word_of.ensures.word)
    c.args.out _ c.args.into.now c.put_word.new.self c.put_word.result c.requires.width c.put_word.ensures
