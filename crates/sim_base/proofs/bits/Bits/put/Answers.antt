use Rattle.std.proofs.Common.{arith, ℕ, ◌≡◌, ◌<◌, ◌^◌, set, ◌∙◌, ap}
use Rattle.std.proofs.lemmas.List.{length-set}
use Rattle.sim_base.specs.BitValue.{number_of_words, BitValue, bit_value}
use Rattle.sim_base.proofs.Words.{fit_set}
use Rattle.sim_base.proofs.Field.{one_word}
use Rattle.sim_base.proofs.bits.Bits.put.Goals as goal

width_is : (c : goal.After-self-1) → c.self.inside.width ≡ c.args.self.now.width
width_is c = ap (λ v. v.width) c.self.view_is

number_is : (c : goal.After-self-1) → number_of_words (set c.self.inside.words.items 0 c.args.v) ≡ c.args.v
number_is c = let w = width_is c in one_word c.self.inside.words.items c.args.v (omega (arith, width_is c, c.self.invariant.0, c.if-self-gt0.true, c.requires.small))

below : (c : goal.After-self-1) → number_of_words (set c.self.inside.words.items 0 c.args.v) < 2 ^ c.self.inside.width
below c = rw (number_is c) (rw (width_is c) c.requires.below)

pub invariant_of-self : goal.invariant_of-self
invariant_of-self c =
    (length-set c.self.inside.words.items 0 c.args.v ∙ c.self.invariant.0, below c, fit_set c.self.inside.words.items 0 c.args.v c.self.invariant.2 c.ranges.v.fits)

pub returns-then-self-gt0 : goal.returns-then-self-gt0
returns-then-self-gt0 c =
    let f : ℕ → ℕ → BitValue = bit_value in
    ap (λ n. bit_value c.self.inside.width n) (number_is c) ∙ ap (λ w. bit_value w c.args.v) (width_is c)
