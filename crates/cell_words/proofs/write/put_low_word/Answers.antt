use Rattle.std.proofs.Common.{◌≡◌, ◌%◌, ◌^◌, ◌∙◌, ap, bit_and}
use Rattle.std.proofs.lemmas.Nat.{and_mask}
use Rattle.sim_base.specs.Values.{width_at}
use Rattle.signal_words.proofs.Told.{same_put}
use Rattle.cell_words.proofs.write.put_low_word.Goals as goal

word : (c : goal.After-put_word) → bit_and c.args.number c.ones_word.result ≡ c.args.number % 2 ^ (width_at c.args.into.now c.args.out)
word c = ap (bit_and c.args.number) c.ones_word.ensures ∙ and_mask c.args.number c.width.result ∙ ap (λ w. c.args.number % 2 ^ w) c.width.ensures.value

pub returns : goal.returns
returns c = same_put _ _ _ _ _ _ (word c) c.put_word.ensures
