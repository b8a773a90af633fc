use Rattle.std.proofs.Common.{◌<◌, ◌^◌, sym, subst, arith, w64}
use Rattle.std.specs.Int.{trailing_zeros}
use Rattle.cell_wide.proofs.Counted.{searched, found, found_inside, found_none}
use Rattle.cell_wide.proofs.count.lowest.Goals as goal

pub overflow_add-result : goal.overflow_add-result
overflow_add-result g c =
    let t : trailing_zeros w64 c.next-word.result < c.min-n.result =
    found_inside c.min-n.result c.next-word.result (subst (λ x. x < 2 ^ c.min-n.result) (sym c.next-word.ensures.word) (g.met.W.Words.below c.loop-at.words c.min-n.result)) c.if-word-ne0.true c.next-word.type_inv in
    omega (arith, t, c.min-n.ensures, c.loop-at-test.true, c.ranges.width)

pub returns-then-word-ne0 : goal.returns-then-word-ne0
returns-then-word-ne0 g c =
    sym (found (g.W.Words.low c.args.words.now) (g.W.Words.low c.loop-at.words) (g.W.Words.low c.next-word.new.self) c.args.width c.loop-at.at c.min-n.result c.next-word.result c.next-word.ensures.rest c.next-word.ensures.word
    (omega (arith, c.min-n.ensures, c.loop-at-test.true)) c.loop-at.invariant (g.met.W.Words.below c.next-word.new.self)
    (subst (λ x. x < 2 ^ c.min-n.result) (sym c.next-word.ensures.word) (g.met.W.Words.below c.loop-at.words c.min-n.result)) c.if-word-ne0.true c.next-word.type_inv)

pub loop-at-preserved : goal.loop-at-preserved
loop-at-preserved g c =
    searched (g.W.Words.low c.args.words.now) (g.W.Words.low c.loop-at.words) (g.W.Words.low c.next-word.new.self) c.args.width c.loop-at.at c.min-n.result c.next-word.result c.next-word.ensures.rest c.next-word.ensures.word
    (omega (arith, c.min-n.ensures, c.loop-at-test.true)) c.loop-at.invariant c.if-word-ne0.false

pub returns : goal.returns
returns g c = sym (found_none (g.W.Words.low c.args.words.now) (g.W.Words.low c.loop-at.words) c.args.width c.loop-at.at c.loop-at.invariant c.loop-at-test.false)
