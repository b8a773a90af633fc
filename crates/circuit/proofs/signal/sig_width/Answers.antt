use Rattle.std.proofs.Common.{arith, refl, lit<}
use Rattle.circuit.specs.Signal.{sig_number}
use Rattle.circuit.proofs.Signals.{all_below, first_more, more_below, width_more}
use Rattle.circuit.proofs.signal.sig_width.Goals as goal

pub loop-piece-init : goal.loop-piece-init
unfolding sig_number
loop-piece-init c = record { width = refl; below = λ digits small. lit< tt; constants = λ i v lt at. absurd (omega (arith, lt)) }

pub loop-piece-preserved : goal.loop-piece-preserved
loop-piece-preserved c = record {
  width = omega (arith, width_more c.args.sig.now c.loop-piece.piece-index c.piece-item.result c.loop-piece-test.true c.piece-item.is, c.loop-piece.invariant.width, c.width-width.ensures.value);
  below = λ digits small.
      more_below digits c.args.sig.now c.loop-piece.piece-index c.piece-item.result c.loop-piece-test.true c.piece-item.is (c.loop-piece.invariant.below digits small)
      (c.width-width.ensures.below digits small);
  constants =
      first_more c.args.sig.now c.loop-piece.piece-index c.piece-item.result c.loop-piece-test.true c.piece-item.is (c.width-width.ensures.below (λ net bit. 0) (λ net bit. omega arith))
      c.loop-piece.invariant.constants;
}

pub returns-clause-constants : goal.returns-clause-constants
returns-clause-constants c =
    all_below c.args.sig.now c.loop-piece.piece-index (let past = c.loop-piece-test.false in omega (arith, past)) c.loop-piece.invariant.constants
