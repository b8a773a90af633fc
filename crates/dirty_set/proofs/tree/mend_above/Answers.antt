use Rattle.std.proofs.Common.{◌≡◌, ℕ, ◌-◌, ◌/◌, ◌%◌, ◌<◌, get_or, not, ◌==◌, ◌∙◌, ap, refl, arith}
use Rattle.std.specs.Int.{bit_at}
use Rattle.std.proofs.lemmas.List.{get_or_read}
use Rattle.sim_base.specs.BitValue.{digit_after_set, digit_of}
use Rattle.dirty_set.specs.Tree.{some_digit}
use Rattle.dirty_set.proofs.Summed.{mended, same_some, same_from_beq}
use Rattle.dirty_set.proofs.tree.mend_above.Goals as goal
use Rattle.dirty_set.proofs.tree.mend_above.Goals.{After-with_digit-word}

old_is : (c : After-with_digit-word) → c.index-old.result.now ≡ get_or c.args.words.now.items ((c.args.place - 1) / 64) 0
old_is c = get_or_read c.args.words.now.items ((c.args.place - 1) / 64) c.index-old.result.now (let i = c.requires.inside in omega (arith, i)) c.index-old.ensures 0

one : (c : After-with_digit-word) (j : ℕ) → j < 64 → bit_at c.with_digit-word.result j ≡ digit_after_set ((c.args.place - 1) % 64) (some_digit (get_or c.args.words.now.items c.args.place 0)) (get_or c.args.words.now.items ((c.args.place - 1) / 64) 0) j
one c j h =
    c.with_digit-word.ensures j h
    ∙ ap (λ x. digit_after_set ((c.args.place - 1) % 64) (digit_of (not (x == 0))) c.index-old.result.now j) (get_or_read c.args.words.now.items c.args.place c.index.result.now c.requires.inside c.index.ensures 0)
    ∙ ap (λ x. digit_after_set ((c.args.place - 1) % 64) (some_digit (get_or c.args.words.now.items c.args.place 0)) x j) (old_is c)

pub returns-then-old-word-clause-summed : goal.returns-then-old-word-clause-summed
returns-then-old-word-clause-summed c first joined summed =
    mended c.args.words.now.items first c.args.place c.with_digit-word.result c.requires.inside c.requires.below summed (one (goal.at.returns-then-old-word-clause-summed c).After-with_digit-word) 0
    (λ ne. same_some c.index-old.result.now c.with_digit-word.result (same_from_beq (c.index-old.result.now == 0) (c.with_digit-word.result == 0) c.if-old-word.true) ∙ ap some_digit (old_is (goal.at.returns-then-old-word-clause-summed c).After-with_digit-word))

pub returns-else-old-word-clause-summed : goal.returns-else-old-word-clause-summed
returns-else-old-word-clause-summed c first joined summed =
    mended c.args.words.now.items first c.args.place c.with_digit-word.result c.requires.inside c.requires.below summed (one (goal.at.returns-else-old-word-clause-summed c).After-with_digit-word) ((c.args.place - 1) / 64)
    (λ ne. absurd (ne refl))
