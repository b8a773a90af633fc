use Rattle.std.proofs.Common.{◌∙◌, refl, arith}
use Rattle.std.proofs.lemmas.List.{length-set}
use Rattle.dirty_set.proofs.Summed.{put_summed}
use Rattle.dirty_set.proofs.Leaves.{drop_leaf, fit_items}
use Rattle.dirty_set.proofs.tree.put_leaf.Goals as goal

pub returns-then-old-word-clause-summed : goal.returns-then-old-word-clause-summed
returns-then-old-word-clause-summed c first from joined summed =
    c.mend.ensures.summed first (omega (arith, joined, length-set c.args.words.now.items c.args.place c.args.word))
    (put_summed c.args.words.now.items first c.args.place c.args.word from c.requires summed c.args.place (λ ne. absurd (ne refl)))

pub returns-then-old-word-clause-leaves : goal.returns-then-old-word-clause-leaves
returns-then-old-word-clause-leaves c first from joined =
    c.mend.ensures.leaves first (omega (arith, joined, length-set c.args.words.now.items c.args.place c.args.word))
    ∙ drop_leaf c.args.words.now.items first c.args.place c.args.word from

pub returns-else-old-word-clause-leaves : goal.returns-else-old-word-clause-leaves
returns-else-old-word-clause-leaves c first from joined = drop_leaf c.args.words.now.items first c.args.place c.args.word from

pub returns-then-old-word-clause-fit : goal.returns-then-old-word-clause-fit
returns-then-old-word-clause-fit c = fit_items _ c.type_inv.words

pub returns-else-old-word-clause-fit : goal.returns-else-old-word-clause-fit
returns-else-old-word-clause-fit c = fit_items _ c.type_inv.words
