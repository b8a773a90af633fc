use Rattle.std.proofs.Common.{arith, ℕ, ◌≡◌, ◌<◌, ◌-◌, ◌*◌, ◌^◌, length, set, ◌∙◌, ap, subst, sym}
use Rattle.std.specs.Int.{bit_at}
use Rattle.std.proofs.lemmas.List.{length-set}
use Rattle.sim_base.specs.BitValue.{number_of_words, digit_after_copy}
use Rattle.sim_base.proofs.Words.{fit_set}
use Rattle.sim_base.proofs.Copies.{placed_word, placed_below}
use Rattle.sim_base.proofs.bits.Bits.put_word.Goals as goal

width_is : (c : goal.After-self-1) → c.self.inside.width ≡ c.args.self.now.width
width_is c = ap (λ v. v.width) c.self.view_is

there : (c : goal.After-self-1) → c.args.place < length c.self.inside.words.items
there c = omega (arith, width_is c, c.self.invariant.0, c.requires.inside)

bits : (c : goal.After-self-1) (j : ℕ) → bit_at (number_of_words (set c.self.inside.words.items c.args.place c.args.word)) j ≡ digit_after_copy (64 * c.args.place) c.args.word 0 64 (number_of_words c.self.inside.words.items) j
bits c = placed_word c.self.inside.words.items c.args.place c.args.word c.self.invariant.2 c.ranges.word.fits (there c)

below : (c : goal.After-self-1) → number_of_words (set c.self.inside.words.items c.args.place c.args.word) < 2 ^ c.self.inside.width
below c =
    placed_below c.self.inside.width c.args.place c.args.word (number_of_words c.self.inside.words.items) (number_of_words (set c.self.inside.words.items c.args.place c.args.word))
    (subst (λ w. c.args.word < 2 ^ (w - 64 * c.args.place)) (sym (width_is c)) c.requires.below) c.self.invariant.1 (bits c) (omega (arith, width_is c, c.requires.inside))

pub invariant_of-self : goal.invariant_of-self
invariant_of-self c =
    (length-set c.self.inside.words.items c.args.place c.args.word ∙ c.self.invariant.0, below c, fit_set c.self.inside.words.items c.args.place c.args.word c.self.invariant.2 c.ranges.word.fits)

pub returns-clause-below : goal.returns-clause-below
returns-clause-below c = below c

pub returns-clause-bits : goal.returns-clause-bits
returns-clause-bits c j = bits c j ∙ ap (λ v. digit_after_copy (64 * c.args.place) c.args.word 0 64 v.number j) c.self.view_is
