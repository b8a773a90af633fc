use Rattle.std.proofs.Common.{subst}
use Rattle.std.specs.Prelude.{IfSome}
use Rattle.signal_words.specs.Values.{IsWordOf}
use Rattle.cell_wide.proofs.Copied.{word_ones}
use Rattle.cell_wide.proofs.truth.has_odd_ones.Goals as goal

pub returns-in-Some : goal.returns-in-Some
returns-in-Some c =
    let word = c.in-Some.word in
    word_ones c.args.nets.now c.args.sig.now word.width word.number (subst (λ o. IfSome o (λ w. IsWordOf c.args.nets.now c.args.sig.now w.width w.number)) c.in-Some.is c.requires.word)
