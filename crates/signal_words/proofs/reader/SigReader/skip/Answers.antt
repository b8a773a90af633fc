use Rattle.std.proofs.Common.{sym, arith}
use Rattle.signal_words.specs.Values.{digits_in}
use Rattle.signal_words.proofs.Signals.{are_bits}
use Rattle.signal_words.proofs.Steps.{passing_none, pass_inside, pass_behind, passed_whole, passed_end}
use Rattle.signal_words.proofs.reader.SigReader.skip.Goals as goal
use Rattle.signal_words.proofs.reader.SigReader.skip.Goals.{else-loop-more-test, then-loop-more-test+in_default}

pub loop-more-init : goal.loop-more-init
loop-more-init c = passing_none c.self.inside.nets.now c.self.inside.pieces.now c.self.inside.at c.args.n c.args.self.now c.self.invariant (sym c.self.view_is)

pub loop-more-preserved-then-width-left : goal.loop-more-preserved-then-width-left
loop-more-preserved-then-width-left c =
    pass_inside c.self.inside.nets.now c.loop-more.pieces.now c.in-Some.piece.now c.in-Some.behind.now c.loop-more.at c.args.n c.loop-more.more c.min-width.result c.args.self.now
    c.in-Some.ensures.cases.0 c.loop-more.invariant (omega (arith, c.min-width.ensures, c.width.ensures.value))

pub loop-more-preserved : goal.loop-more-preserved
loop-more-preserved c =
    pass_behind c.self.inside.nets.now c.loop-more.pieces.now c.in-Some.piece.now c.in-Some.behind.now c.loop-more.at c.args.n c.loop-more.more c.min-width.result c.args.self.now
    c.in-Some.ensures.cases.0 c.loop-more.invariant (omega (arith, c.min-width.ensures, c.width.ensures.value)) (c.width.ensures.below (digits_in c.self.inside.nets.now) (are_bits c.self.inside.nets.now)) (omega (arith, c.min-width.ensures, c.width.ensures.value, c.if-width-left.false))

pub returns : goal.returns
returns c = elim c.loop-more-test.branch [
  | else-loop-more-test w ↦ passed_whole c.self.inside.nets.now c.loop-more.pieces.now c.loop-more.at c.args.n c.loop-more.more c.args.self.now c.loop-more.invariant (omega (arith, w.loop-more-test.false))
  | then-loop-more-test+in_default w ↦ passed_end c.self.inside.nets.now c.loop-more.pieces.now c.loop-more.at c.args.n c.loop-more.more c.args.self.now c.loop-more.invariant w.in_default.ensures.cases
]
