use Rattle.std.proofs.Common.{◌+◌, ◌-◌, ◌*◌, ◌<◌, ◌^◌, sym, ◌∙◌, ap, subst}
use Rattle.cell_wide.specs.Words.{low_of_inverse}
use Rattle.cell_wide.proofs.Digits.{inverse_passes}
use Rattle.cell_wide.proofs.words.InverseWords.next.Goals as goal

pub returns-clause-rest : goal.returns-clause-rest
returns-clause-rest g c w =
    inverse_passes (g.A.Words.low c.args.self.now.of) (g.A.Words.low c.next.new.self) c.args.n c.next.result c.next.ensures.rest
    (subst (λ x. x < 2 ^ c.args.n) (sym c.next.ensures.word) (g.met.A.Words.below c.args.self.now.of c.args.n)) (g.met.A.Words.below c.next.new.self) w
    ∙ ap (λ x. low_of_inverse (g.A.Words.low c.next.new.self) w * 2 ^ c.args.n + (x - c.next.result)) (sym c.ones_word.ensures)
