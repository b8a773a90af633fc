use Rattle.std.proofs.Common.{◌∙◌, ap, int_lt}
use Rattle.cell_words.specs.Wholes.{narrow}
use Rattle.cell_words.proofs.Wholes.{lower_narrow}
use Rattle.cell_words.proofs.narrow.Narrow.is_below.Goals as goal

pub returns-else-self-other : goal.returns-else-self-other
returns-else-self-other c =
    let a = c.self.inside in
    let b = c.other.inside in
    lower_narrow a.negative b.negative a.low b.low c.self.invariant.0 c.if-self-other.false c.other.invariant.0
    ∙ ap (λ z. int_lt z (narrow b.negative b.low)) c.self.view_is ∙ ap (int_lt c.args.self.now) c.other.view_is
