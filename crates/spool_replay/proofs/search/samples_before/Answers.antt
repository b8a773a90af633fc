-- Each record that is passed is that of one sample more.
use Rattle.std.proofs.Common.{◌≡◌, ◌+◌, ◌-◌, ◌*◌, length, ap, sym, ◌∙◌, arith}
use Rattle.sim_base.specs.Shape.{words_of_widths}
use Rattle.spool_format.specs.Reading.{sample_at}
use Rattle.spool_format.proofs.KeptOn.{chunk_length}
use Rattle.spool_replay.proofs.Playing.{first_read}
use Rattle.spool_replay.proofs.Searched.{all_found, behind_found, left_found}
use Rattle.spool_replay.proofs.search.samples_before.Goals as goal

pub loop-place-init : goal.loop-place-init
loop-place-init g c =
    let first = first_read c.args.view.now c.args.n c.count-samples.ensures.run c.requires.there in
    let words : c.words.result ≡ words_of_widths c.args.view.now.widths = c.words.ensures.value ∙ ap words_of_widths c.shape-2.ensures in
    let at : 256 * c.args.n + 0 ≡ 256 * c.args.n = omega arith in
    record {
      some = omega arith;
      within = first.0;
      place = ap (λ k. 4 + k) words ∙ sym first.1;
      before = omega (arith, c.requires.first, ap (λ k. (sample_at c.args.view.now.samples k).time) at);
      steps = omega arith;
    }

pub returns-then-femtoseconds-clause-behind : goal.returns-then-femtoseconds-clause-behind
returns-then-femtoseconds-clause-behind g c more =
    let r = c.args.view.now in
    let there = behind_found r c.args.n c.loop-place.found c.loop-place.place c.chunk-chunk.result.now c.widths-widths.result.now c.count-samples.ensures.run c.loop-place.invariant.some more
    c.loop-place.invariant.place c.chunk-chunk.ensures (c.widths-widths.ensures ∙ c.shape.ensures) in
    let time = c.time_or_zero.ensures _ there.time in
    omega (arith, time, c.if-femtoseconds.true, c.femtoseconds.ensures.value, c.femtoseconds-in-loop-place.ensures.value)

pub returns-then-femtoseconds-clause-steps : goal.returns-then-femtoseconds-clause-steps
returns-then-femtoseconds-clause-steps g c =
    let r = c.args.view.now in
    let more = left_found r c.args.n c.loop-place.found c.loop-place.place c.chunk-chunk.result.now c.loop-place.invariant.within c.loop-place.invariant.place c.chunk-chunk.ensures c.loop-place-test.true in
    let there = behind_found r c.args.n c.loop-place.found c.loop-place.place c.chunk-chunk.result.now c.widths-widths.result.now c.count-samples.ensures.run c.loop-place.invariant.some more
    c.loop-place.invariant.place c.chunk-chunk.ensures (c.widths-widths.ensures ∙ c.shape.ensures) in
    omega (arith, there.change.head, ap length c.chunk-chunk.ensures, c.take_steps.ensures, c.loop-place.invariant.steps)

pub pass_change-end-requires : goal.pass_change-end-requires
pass_change-end-requires g c =
    let r = c.args.view.now in
    let more = left_found r c.args.n c.loop-place.found c.loop-place.place c.chunk-chunk.result.now c.loop-place.invariant.within c.loop-place.invariant.place c.chunk-chunk.ensures c.loop-place-test.true in
    (behind_found r c.args.n c.loop-place.found c.loop-place.place c.chunk-chunk.result.now c.widths-widths.result.now c.count-samples.ensures.run c.loop-place.invariant.some more
    c.loop-place.invariant.place c.chunk-chunk.ensures (c.widths-widths.ensures ∙ c.shape.ensures)).change

pub overflow_sub-end : goal.overflow_sub-end
overflow_sub-end g c =
    let r = c.args.view.now in
    let more = left_found r c.args.n c.loop-place.found c.loop-place.place c.chunk-chunk.result.now c.loop-place.invariant.within c.loop-place.invariant.place c.chunk-chunk.ensures c.loop-place-test.true in
    let there = behind_found r c.args.n c.loop-place.found c.loop-place.place c.chunk-chunk.result.now c.widths-widths.result.now c.count-samples.ensures.run c.loop-place.invariant.some more
    c.loop-place.invariant.place c.chunk-chunk.ensures (c.widths-widths.ensures ∙ c.shape.ensures) in
    let end = there.ends c.pass_change-end.result c.pass_change-end.ensures.within c.pass_change-end.ensures.behind in
    omega (arith, end, there.more)

pub overflow_sub-end-in-loop-place : goal.overflow_sub-end-in-loop-place
overflow_sub-end-in-loop-place g c =
    let r = c.args.view.now in
    let more = left_found r c.args.n c.loop-place.found c.loop-place.place c.chunk-chunk.result.now c.loop-place.invariant.within c.loop-place.invariant.place c.chunk-chunk.ensures c.loop-place-test.true in
    let there = behind_found r c.args.n c.loop-place.found c.loop-place.place c.chunk-chunk.result.now c.widths-widths.result.now c.count-samples.ensures.run c.loop-place.invariant.some more
    c.loop-place.invariant.place c.chunk-chunk.ensures (c.widths-widths.ensures ∙ c.shape.ensures) in
    let end = there.ends c.pass_change-end.result c.pass_change-end.ensures.within c.pass_change-end.ensures.behind in
    omega (arith, end, there.more)

pub overflow_add-found : goal.overflow_add-found
overflow_add-found g c =
    let few = chunk_length c.args.view.now.samples c.args.n in
    omega (arith, few, c.loop-place.invariant.within)

pub loop-place-smaller : goal.loop-place-smaller
loop-place-smaller g c =
    let r = c.args.view.now in
    let more = left_found r c.args.n c.loop-place.found c.loop-place.place c.chunk-chunk.result.now c.loop-place.invariant.within c.loop-place.invariant.place c.chunk-chunk.ensures c.loop-place-test.true in
    let there = behind_found r c.args.n c.loop-place.found c.loop-place.place c.chunk-chunk.result.now c.widths-widths.result.now c.count-samples.ensures.run c.loop-place.invariant.some more
    c.loop-place.invariant.place c.chunk-chunk.ensures (c.widths-widths.ensures ∙ c.shape.ensures) in
    let end = there.ends c.pass_change-end.result c.pass_change-end.ensures.within c.pass_change-end.ensures.behind in
    omega (arith, end, there.more, c.loop-place-test.true)

pub loop-place-preserved : goal.loop-place-preserved
loop-place-preserved g c =
    let r = c.args.view.now in
    let more = left_found r c.args.n c.loop-place.found c.loop-place.place c.chunk-chunk.result.now c.loop-place.invariant.within c.loop-place.invariant.place c.chunk-chunk.ensures c.loop-place-test.true in
    let there = behind_found r c.args.n c.loop-place.found c.loop-place.place c.chunk-chunk.result.now c.widths-widths.result.now c.count-samples.ensures.run c.loop-place.invariant.some more
    c.loop-place.invariant.place c.chunk-chunk.ensures (c.widths-widths.ensures ∙ c.shape.ensures) in
    let end = there.ends c.pass_change-end.result c.pass_change-end.ensures.within c.pass_change-end.ensures.behind in
    let five = there.more in
    let time = c.time_or_zero.ensures _ there.time in
    let at : 256 * c.args.n + (c.loop-place.found + 1 - 1) ≡ 256 * c.args.n + c.loop-place.found = omega arith in
    record {
      some = omega arith;
      within = omega (arith, more);
      place = end;
      before = omega (arith, time, c.if-femtoseconds.false, c.femtoseconds.ensures.value, c.femtoseconds-in-loop-place.ensures.value, ap (λ k. (sample_at c.args.view.now.samples k).time) at);
      steps = omega (arith, end, five, c.take_steps.ensures, c.take_steps-in-loop-place.ensures, c.loop-place.invariant.steps);
    }

pub returns-clause-behind : goal.returns-clause-behind
returns-clause-behind g c more =
    let all = all_found c.args.view.now c.args.n c.loop-place.found c.loop-place.place c.chunk-chunk.result.now c.count-samples.ensures.run c.loop-place.invariant.some c.loop-place.invariant.within
    c.loop-place.invariant.place c.chunk-chunk.ensures c.loop-place-test.false in
    absurd (omega (arith, all.0, more))

pub returns-clause-steps : goal.returns-clause-steps
returns-clause-steps g c =
    let all = all_found c.args.view.now c.args.n c.loop-place.found c.loop-place.place c.chunk-chunk.result.now c.count-samples.ensures.run c.loop-place.invariant.some c.loop-place.invariant.within
    c.loop-place.invariant.place c.chunk-chunk.ensures c.loop-place-test.false in
    omega (arith, all.1, ap length c.chunk-chunk.ensures, c.loop-place.invariant.steps)
