use Rattle.std.proofs.Common.{◌≡◌, ◌%◌, ◌^◌, ◌∙◌, ap, bit_and}
use Rattle.std.proofs.lemmas.Nat.{and_mask}
use Rattle.sim_base.specs.Values.{width_at}
use Rattle.signal_words.proofs.Told.{same_put}
use Rattle.cell_words.proofs.TwoWords.{low_masked}
use Rattle.cell_words.proofs.write.put_low.Goals as goal

word : (c : goal.After-put_word) → bit_and c.low_word.result c.ones_word.result ≡ c.args.number % 2 ^ (width_at c.args.into.now c.args.out)
word c =
    low_masked c.width-width.result c.args.number c.low_word.result c.ones_word.result c.if-width-le64.true c.low_word.ensures c.ones_word.ensures
    ∙ ap (λ w. c.args.number % 2 ^ w) c.width-width.ensures.value

pub returns-then-width-le64 : goal.returns-then-width-le64
returns-then-width-le64 c = same_put _ _ _ _ _ _ (word c) c.put_word.ensures

words : (c : goal.After-put_wide) → bit_and c.args.number c.low_ones.result ≡ c.args.number % 2 ^ (width_at c.args.into.now c.args.out)
words c =
    ap (bit_and c.args.number) c.low_ones.ensures ∙ and_mask c.args.number c.width-width.result
    ∙ ap (λ w. c.args.number % 2 ^ w) c.width-width.ensures.value

pub returns-else-width-le64 : goal.returns-else-width-le64
returns-else-width-le64 c = same_put _ _ _ _ _ _ (words c) c.put_wide.ensures
