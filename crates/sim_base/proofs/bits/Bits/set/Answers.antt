use Rattle.std.proofs.Common.{arith, ℕ, ◌≡◌, ◌<◌, ◌^◌, ◌/◌, ◌%◌, length, set, ◌∙◌, ap}
use Rattle.std.specs.Int.{bit_at}
use Rattle.std.proofs.lemmas.List.{length-set, get_or_read}
use Rattle.sim_base.specs.BitValue.{number_of_words, digit_after_set, digit_of}
use Rattle.sim_base.proofs.Words.{written_words, written_below, fit_set}
use Rattle.sim_base.proofs.bits.Bits.set.Goals as goal

inside : (c : goal.After-self-1) → c.args.i / 64 < length c.self.inside.words.items
inside c = let w : c.self.inside.width ≡ c.args.self.now.width = ap (λ v. v.width) c.self.view_is in omega (arith, c.self.invariant.0)

bits : (c : goal.After-self-1) (j : ℕ) → bit_at (number_of_words (set c.self.inside.words.items (c.args.i / 64) c.with_digit-word.result)) j ≡ digit_after_set c.args.i (digit_of c.args.v) (number_of_words c.self.inside.words.items) j
bits c =
    written_words c.self.inside.words.items c.args.i (digit_of c.args.v) c.with_digit-word.result c.self.invariant.2 c.with_digit-word.type_inv (inside c)
    (λ j h. c.with_digit-word.ensures j h ∙ ap (λ x. digit_after_set (c.args.i % 64) (digit_of c.args.v) x j) (get_or_read c.self.inside.words.items (c.args.i / 64) c.index.result.now (inside c) c.index.ensures 0))

below : (c : goal.After-self-1) → number_of_words (set c.self.inside.words.items (c.args.i / 64) c.with_digit-word.result) < 2 ^ c.self.inside.width
below c =
    let w : c.self.inside.width ≡ c.args.self.now.width = ap (λ v. v.width) c.self.view_is in
    written_below c.self.inside.width c.args.i (digit_of c.args.v) (number_of_words c.self.inside.words.items) _ (omega arith) c.self.invariant.1 (bits c)

pub invariant_of-self : goal.invariant_of-self
invariant_of-self c =
    (length-set c.self.inside.words.items (c.args.i / 64) c.with_digit-word.result ∙ c.self.invariant.0, below c, fit_set c.self.inside.words.items (c.args.i / 64) c.with_digit-word.result c.self.invariant.2 c.with_digit-word.type_inv)

pub returns-clause-below : goal.returns-clause-below
returns-clause-below c = below c

pub returns-clause-bits : goal.returns-clause-bits
returns-clause-bits c j = bits c j ∙ ap (λ v. digit_after_set c.args.i (digit_of c.args.v) v.number j) c.self.view_is
