use Rattle.std.proofs.Common.{◌<◌, ◌^◌, sym, subst}
use Rattle.sim_base.specs.Values.{IsPut}
use Rattle.sim_base.proofs.Filling.{filling_all, filling_below, filling_more, filling_none, filling_there}
use Rattle.cell_wide.proofs.Written.{more_passed, part_written, starts}
use Rattle.cell_wide.proofs.write.write.Goals as goal

pub loop-at-init : goal.loop-at-init
loop-at-init g c = record {
  passed = starts (g.W.Words.low c.args.words.now) (g.met.W.Words.below c.args.words.now 0);
  filling = filling_none c.args.into.now c.args.out _ c.width-width.result;
}

pub put_word_at-part-requires-clause-there : goal.put_word_at-part-requires-clause-there
put_word_at-part-requires-clause-there g c = filling_there _ _ _ _ _ _ _ c.loop-at.invariant.filling c.requires

pub put_word_at-part-requires-clause-inside : goal.put_word_at-part-requires-clause-inside
put_word_at-part-requires-clause-inside g c =
    let lt = subst (λ x. x < 2 ^ c.min-n.result) (sym c.next_word-word.ensures.word) (g.met.W.Words.below c.loop-at.words c.min-n.result) in
    (filling_below _ _ _ _ _ _ c.min-n.result c.next_word-word.result _ c.loop-at.invariant.filling c.loop-at-test.true c.min-n.ensures c.width-width.ensures.value lt).0

pub put_word_at-part-requires-clause-below : goal.put_word_at-part-requires-clause-below
put_word_at-part-requires-clause-below g c =
    let lt = subst (λ x. x < 2 ^ c.min-n.result) (sym c.next_word-word.ensures.word) (g.met.W.Words.below c.loop-at.words c.min-n.result) in
    (filling_below _ _ _ _ _ _ c.min-n.result c.next_word-word.result _ c.loop-at.invariant.filling c.loop-at-test.true c.min-n.ensures c.width-width.ensures.value lt).1

pub loop-at-preserved : goal.loop-at-preserved
loop-at-preserved g c =
    let lt = subst (λ x. x < 2 ^ c.min-n.result) (sym c.next_word-word.ensures.word) (g.met.W.Words.below c.loop-at.words c.min-n.result) in
    record {
      passed = more_passed (g.W.Words.low c.args.words.now) (g.W.Words.low c.loop-at.words) (g.W.Words.low c.next_word-word.new.words) c.loop-at.at c.min-n.result c.next_word-word.result c.loop-at.invariant.passed c.next_word-word.ensures.rest c.next_word-word.ensures.word;
      filling = filling_more _ _ _ _ _ _ _ c.min-n.result c.next_word-word.result _ _ c.loop-at.invariant.filling c.loop-at-test.true c.min-n.ensures
          (record { value = c.put_word_at-part.ensures.value; bits = c.put_word_at-part.ensures.bits; changed = c.put_word_at-part.ensures.changed })
          (part_written (g.W.Words.low c.args.words.now) (g.W.Words.low c.loop-at.words) (g.W.Words.low c.next_word-word.new.words) c.width-width.result c.loop-at.at c.min-n.result c.next_word-word.result c.loop-at.invariant.passed c.next_word-word.ensures.rest
          (g.met.W.Words.below c.args.words.now c.loop-at.at) lt (g.met.W.Words.below c.args.words.now c.width-width.result) c.loop-at-test.true c.min-n.ensures);
    }

pub returns : goal.returns
returns g c =
    let r = filling_all _ _ _ _ _ _ _ c.loop-at.invariant.filling c.loop-at-test.false c.width-width.ensures.value c.width-width.ensures.below (g.met.W.Words.below c.args.words.now c.width-width.result) in
    subst (λ k. IsPut c.args.out (g.W.Words.low c.args.words.now k) c.args.into.now c.loop-at.into c.loop-at.changed) c.width-width.ensures.value r
