use Rattle.std.proofs.Common.{◌∙◌, ap, sym, arith}
use Rattle.sim_base.specs.BitValue.{BitValue}
use Rattle.cell_words.proofs.Distances.{rest_differs, rest_goes_on, rest_fits}
use Rattle.cell_words.proofs.amount.is_rest.Goals as goal

pub returns-then-word-all_ones : goal.returns-then-word-all_ones
returns-then-word-all_ones c =
    sym (c.loop-left.invariant.same
    ∙ rest_differs c.args.ones c.min-n.result c.loop-left.left c.loop-left.reader.number c.take-word.result c.all_ones.result
    (omega (arith, c.min-n.ensures)) c.take-word.ensures.word c.all_ones.ensures c.if-word-all_ones.true)

pub loop-left-preserved : goal.loop-left-preserved
loop-left-preserved c = record {
  below = rest_fits c.min-n.result c.loop-left.left c.loop-left.reader.number c.take-word.new.self.number (omega (arith, c.min-n.ensures)) c.loop-left.invariant.below
      (ap (λ (v : BitValue). v.number) c.take-word.ensures.rest);
  same = c.loop-left.invariant.same
      ∙ rest_goes_on c.args.ones c.min-n.result c.loop-left.left c.loop-left.reader.number c.take-word.new.self.number c.take-word.result c.all_ones.result
      (omega (arith, c.min-n.ensures)) c.take-word.ensures.word (ap (λ (v : BitValue). v.number) c.take-word.ensures.rest) c.all_ones.ensures c.if-word-all_ones.false;
}
