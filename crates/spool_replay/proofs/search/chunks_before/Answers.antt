-- Each look halves the chunks that are left.
use Rattle.std.proofs.Common.{◌≡◌, ◌+◌, ◌-◌, ◌*◌, ◌/◌, ◌<◌, ◌≤◌, ap, arith}
use Rattle.spool_format.specs.Reading.{sample_at}
use Rattle.spool_replay.proofs.Searched.{halved}
use Rattle.spool_replay.proofs.search.chunks_before.Goals as goal

pub loop-low-preserved-then-femtoseconds : goal.loop-low-preserved-then-femtoseconds
loop-low-preserved-then-femtoseconds g c =
    let low = c.loop-low.low in
    let high = c.loop-low.high in
    let middle = c.loop-low.low + (c.loop-low.high - c.loop-low.low) / 2 in
    let back : middle + 1 - 1 ≡ middle = omega arith in
    let time : (sample_at c.args.view.now.samples (256 * middle)).time < c.args.t = omega (arith, c.if-femtoseconds.true, c.first_time.ensures, c.femtoseconds.ensures.value, c.femtoseconds-in-loop-low.ensures.value) in
    let took = c.loop-low.invariant.took in
    let some : 0 < high - low = omega (arith, c.loop-low-test.true) in
    let less : high - (middle + 1) ≤ (high - low) / 2 = omega (arith, c.loop-low-test.true) in
    let taken : c.tick.new.self - c.args.steps.now ≡ c.loop-low.steps - c.args.steps.now + 1 = omega (arith, took, c.tick.ensures) in
    record {
      ordered = omega (arith, c.loop-low-test.true);
      within = c.loop-low.invariant.within;
      before = λ _. omega (arith, time, ap (λ k. (sample_at c.args.view.now.samples (256 * k)).time) back);
      behind = c.loop-low.invariant.behind;
      took = omega (arith, took, c.tick.ensures);
      halved = λ p h. halved p (c.loop-low.steps - c.args.steps.now) (high - low) (high - (middle + 1)) (c.tick.new.self - c.args.steps.now) some less taken (c.loop-low.invariant.halved p h);
    }

pub loop-low-preserved : goal.loop-low-preserved
loop-low-preserved g c =
    let low = c.loop-low.low in
    let high = c.loop-low.high in
    let middle = c.loop-low.low + (c.loop-low.high - c.loop-low.low) / 2 in
    let time : c.args.t ≤ (sample_at c.args.view.now.samples (256 * middle)).time = omega (arith, c.if-femtoseconds.false, c.first_time.ensures, c.femtoseconds.ensures.value, c.femtoseconds-in-loop-low.ensures.value) in
    let took = c.loop-low.invariant.took in
    let some : 0 < high - low = omega (arith, c.loop-low-test.true) in
    let less : middle - low ≤ (high - low) / 2 = omega (arith, c.loop-low-test.true) in
    let taken : c.tick.new.self - c.args.steps.now ≡ c.loop-low.steps - c.args.steps.now + 1 = omega (arith, took, c.tick.ensures) in
    record {
      ordered = omega (arith, c.loop-low-test.true);
      within = omega (arith, c.loop-low-test.true, c.loop-low.invariant.within);
      before = c.loop-low.invariant.before;
      behind = λ _. time;
      took = omega (arith, took, c.tick.ensures);
      halved = λ p h. halved p (c.loop-low.steps - c.args.steps.now) (high - low) (middle - low) (c.tick.new.self - c.args.steps.now) some less taken (c.loop-low.invariant.halved p h);
    }
