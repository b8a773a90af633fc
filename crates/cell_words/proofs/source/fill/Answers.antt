use Rattle.std.proofs.Common.{◌/◌, ◌%◌, ◌^◌, ◌<◌, ◌∙◌, ap, subst, sym, arith}
use Rattle.std.proofs.lemmas.Nat.{shr-shr, mod_below, pow_pos}
use Rattle.sim_base.specs.Values.{IsPut}
use Rattle.sim_base.proofs.Filling.{filling_all, filling_below, filling_more, filling_none, filling_there, word_part}
use Rattle.cell_words.proofs.source.fill.Goals as goal

pub loop-done-init : goal.loop-done-init
loop-done-init c = record {
  source = grind arith;
  filling = filling_none c.args.into.now c.args.out (c.args.source.now % 2 ^ c.width-width.result) c.width-width.result;
}

pub put_word_at-part-requires-clause-there : goal.put_word_at-part-requires-clause-there
put_word_at-part-requires-clause-there c = filling_there _ _ _ _ _ _ _ c.loop-done.invariant.filling c.requires

below : (c : goal.After-put_word_at-arg-1) → c.take-word.result < 2 ^ c.min-n.result
below c = subst (λ x. x < 2 ^ c.min-n.result) (sym c.take-word.ensures.word) (mod_below c.loop-done.source (2 ^ c.min-n.result) (pow_pos c.min-n.result))

pub put_word_at-part-requires-clause-inside : goal.put_word_at-part-requires-clause-inside
put_word_at-part-requires-clause-inside c =
    (filling_below _ _ _ _ _ _ c.min-n.result c.take-word.result _ c.loop-done.invariant.filling c.loop-done-test.true c.min-n.ensures c.width-width.ensures.value (below c)).0

pub put_word_at-part-requires-clause-below : goal.put_word_at-part-requires-clause-below
put_word_at-part-requires-clause-below c =
    (filling_below _ _ _ _ _ _ c.min-n.result c.take-word.result _ c.loop-done.invariant.filling c.loop-done-test.true c.min-n.ensures c.width-width.ensures.value (below c)).1

pub loop-done-preserved : goal.loop-done-preserved
loop-done-preserved c = record {
  source = c.take-word.ensures.rest ∙ ap (λ x. x / 2 ^ c.min-n.result) c.loop-done.invariant.source ∙ shr-shr c.args.source.now c.loop-done.done c.min-n.result;
  filling = filling_more _ _ _ _ _ _ _ c.min-n.result c.take-word.result _ _ c.loop-done.invariant.filling c.loop-done-test.true c.min-n.ensures
      (record { value = c.put_word_at-part.ensures.value; bits = c.put_word_at-part.ensures.bits; changed = c.put_word_at-part.ensures.changed })
      (c.take-word.ensures.word ∙ ap (λ x. x % 2 ^ c.min-n.result) c.loop-done.invariant.source ∙ word_part c.args.source.now c.width-width.result c.loop-done.done c.min-n.result c.loop-done-test.true c.min-n.ensures);
}

pub returns : goal.returns
returns c =
    let r = filling_all _ _ _ _ _ _ _ c.loop-done.invariant.filling c.loop-done-test.false c.width-width.ensures.value c.width-width.ensures.below (mod_below c.args.source.now (2 ^ c.width-width.result) (pow_pos c.width-width.result)) in
    subst (λ k. IsPut c.args.out (c.args.source.now % 2 ^ k) c.args.into.now c.loop-done.into c.loop-done.changed) c.width-width.ensures.value r
