use Rattle.std.proofs.Common.{◌∙◌, ap, int_lt}
use Rattle.cell_words.specs.Wholes.{whole}
use Rattle.cell_words.proofs.Wholes.{lower_is_negative}
use Rattle.cell_words.proofs.whole.Whole.is_below.Goals as goal

pub returns-else-self-other : goal.returns-else-self-other
returns-else-self-other c =
    let a = c.self.inside in
    let b = c.other.inside in
    lower_is_negative a.negative b.negative a.low b.low c.self.invariant.0 c.if-self-other.false c.other.invariant.0
    ∙ ap (λ z. int_lt z (whole b.negative b.low)) c.self.view_is ∙ ap (int_lt c.args.self.now) c.other.view_is
