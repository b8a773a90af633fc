use Rattle.cell_wide.proofs.Digits.{fill_passes}
use Rattle.cell_wide.proofs.words.FillWords.next.Goals as goal

pub returns-then-self-clause-rest : goal.returns-then-self-clause-rest
returns-then-self-clause-rest c =
    rw (c.if-self.true, c.ones_word.ensures) (fill_passes c.args.n)
