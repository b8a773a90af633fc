use Rattle.std.proofs.Common.{◌<◌, ◌^◌, sym, subst, arith}
use Rattle.cell_wide.proofs.Written.{compared, differs}
use Rattle.cell_wide.proofs.write.same.Goals as goal

pub returns-then-next_word : goal.returns-then-next_word
returns-then-next_word g c =
    differs (g.A.Words.low c.args.one.now) (g.A.Words.low c.loop-at.one) (g.A.Words.low c.next_word.new.words) (g.B.Words.low c.args.other.now) (g.B.Words.low c.loop-at.other) (g.B.Words.low c.next_word-in-loop-at.new.words) c.args.width c.loop-at.at c.min-n.result c.next_word.result c.next_word-in-loop-at.result
    c.loop-at.invariant c.next_word.ensures.rest c.next_word-in-loop-at.ensures.rest c.next_word.ensures.word c.next_word-in-loop-at.ensures.word
    (g.met.A.Words.below c.args.one.now) (g.met.B.Words.below c.args.other.now) (g.met.A.Words.below c.next_word.new.words) (g.met.B.Words.below c.next_word-in-loop-at.new.words)
    (subst (λ x. x < 2 ^ c.min-n.result) (sym c.next_word.ensures.word) (g.met.A.Words.below c.loop-at.one c.min-n.result)) (subst (λ x. x < 2 ^ c.min-n.result) (sym c.next_word-in-loop-at.ensures.word) (g.met.B.Words.below c.loop-at.other c.min-n.result))
    (omega (arith, c.min-n.ensures, c.loop-at-test.true)) c.if-next_word.true

pub loop-at-preserved : goal.loop-at-preserved
loop-at-preserved g c =
    compared (g.A.Words.low c.args.one.now) (g.A.Words.low c.loop-at.one) (g.A.Words.low c.next_word.new.words) (g.B.Words.low c.args.other.now) (g.B.Words.low c.loop-at.other) (g.B.Words.low c.next_word-in-loop-at.new.words) c.args.width c.loop-at.at c.min-n.result c.next_word.result c.next_word-in-loop-at.result
    c.loop-at.invariant c.next_word.ensures.rest c.next_word-in-loop-at.ensures.rest c.next_word.ensures.word c.next_word-in-loop-at.ensures.word (omega (arith, c.min-n.ensures, c.loop-at-test.true)) c.if-next_word.false
