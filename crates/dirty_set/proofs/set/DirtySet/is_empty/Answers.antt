use Rattle.std.proofs.Common.{◌∙◌, ◌==◌, ap}
use Rattle.std.proofs.lemmas.List.{get_or_read}
use Rattle.dirty_set.proofs.Leaves.{root_inside, root_is_zero}
use Rattle.dirty_set.proofs.set.DirtySet.is_empty.Goals as goal

pub returns : goal.returns
returns c =
    ap (λ x. x == 0) (get_or_read c.self.inside.words.items 0 c.index.result.now (root_inside _ _ _ _ c.self.invariant) c.index.ensures 0)
    ∙ root_is_zero _ _ _ _ c.self.invariant
    ∙ ap (λ v. v.number == 0) c.self.view_is
