use Rattle.std.proofs.Common.{◌∙◌, arith}
use Rattle.dirty_set.proofs.tree.mend.Goals as goal

pub loop-place-preserved : goal.loop-place-preserved
loop-place-preserved c = record {
  inside = let n = c.mend_above-place.ensures.next in let r = c.mend_above-place.ensures.room in let i = c.loop-place.invariant.inside in omega (arith, n, r, i);
  room = c.mend_above-place.ensures.room ∙ c.loop-place.invariant.room;
  summed = λ first joined summed. c.mend_above-place.ensures.summed first (let r = c.loop-place.invariant.room in omega (arith, r, joined)) (c.loop-place.invariant.summed first joined summed);
  leaves = λ first joined. c.mend_above-place.ensures.leaves first (let r = c.loop-place.invariant.room in omega (arith, r, joined)) ∙ c.loop-place.invariant.leaves first joined;
}

pub returns-clause-summed : goal.returns-clause-summed
returns-clause-summed c first joined summed p j lt in' ne =
    c.loop-place.invariant.summed first joined summed p j lt in' (let z = c.loop-place-test.false in omega arith)
