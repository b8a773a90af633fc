use Rattle.std.proofs.Common.{◌≡◌, ℕ, ◌+◌, ◌-◌, ◌<◌, ◌∙◌, ap, arith, subst}
use Rattle.std.specs.Int.{bit_at}
use Rattle.sim_base.specs.BitValue.{number_of_words, digit_after_copy}
use Rattle.sim_base.proofs.Field.{bit_at_shr}
use Rattle.sim_base.proofs.Copies.{copied_join}
use Rattle.sim_base.proofs.Told.{told_more}
use Rattle.sim_base.proofs.bits.put_fields.Goals as goal

pub returns-then-first-n-clause-bits : goal.returns-then-first-n-clause-bits
returns-then-first-n-clause-bits c =
    let less : c.min-first.result < c.args.n = c.if-first-n.true in
    let k : c.min-first.result + (c.args.n - c.min-first.result) ≡ c.args.n = omega arith in
    subst (λ (m : ℕ). (j : ℕ) → bit_at (number_of_words c.put_digits-more.new.words.items) j ≡ digit_after_copy c.args.at c.args.v 0 m (number_of_words c.args.words.now.items) j) k
    (copied_join c.args.at c.args.v 0 c.min-first.result (c.args.n - c.min-first.result) (number_of_words c.args.words.now.items) (number_of_words c.put_digits-changed.new.words.items) (number_of_words c.put_digits-more.new.words.items) _
    c.put_digits-changed.ensures.bits c.put_digits-more.ensures.bits
    (λ i lt. bit_at_shr c.args.v c.min-first.result i ∙ ap (bit_at c.args.v) (let z : c.min-first.result + i ≡ 0 + c.min-first.result + i = omega arith in z)))

pub returns-then-first-n-clause-changed : goal.returns-then-first-n-clause-changed
returns-then-first-n-clause-changed c =
    told_more c.args.at c.args.v 0 c.min-first.result (c.args.n - c.min-first.result) (number_of_words c.args.words.now.items) (number_of_words c.put_digits-changed.new.words.items) (number_of_words c.put_digits-more.new.words.items) _
    c.put_digits-changed.result c.put_digits-more.result c.put_digits-changed.ensures.bits c.put_digits-more.ensures.bits c.put_digits-changed.ensures.changed c.put_digits-more.ensures.changed
