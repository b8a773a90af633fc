use Rattle.std.proofs.Common.{◌+◌, ◌++◌, ◌∙◌, ap, arith, Ok, sym, add-one}
use Rattle.std.specs.Prelude.{is_some}
use Rattle.circuit.specs.Rounds.{standing_after}
use Rattle.flat_run.specs.Run.{run_under}
use Rattle.cxxsim.specs.TraceText.{header, sample_lines}
use Rattle.cxxsim.proofs.Begun.{begun, begun_then, left_whole}
use Rattle.cxxsim.proofs.Printing.{begun_here, line_more, no_lines_more, printed_more, stands_first}
use Rattle.cxxsim.proofs.tracing.write_samples.Goals as goal

pub loop-done-init : goal.loop-done-init
loop-done-init g c = record {
  within = omega arith;
  room = c.requires.room;
  fits = c.requires.fits;
  stands = stands_first (run_under c.args.circuit.now c.args.stimulus.now) c.args.rounds.now c.requires.starts;
  printed = left_whole (g.O.Sink.seen c.args.out.now).held (header c.args.circuit.now ++ sample_lines (run_under c.args.circuit.now c.args.stimulus.now) 0) c.args.text.now.items (no_lines_more (run_under c.args.circuit.now c.args.stimulus.now) ∙ sym c.requires.text);
  later = omega arith;
}

pub returns-in_err-trace_sample-clause-begun : goal.returns-in_err-trace_sample-clause-begun
returns-in_err-trace_sample-clause-begun g c is =
    begun_here (run_under c.args.circuit.now c.args.stimulus.now) c.loop-done.done (g.O.Sink.seen c.args.out.now).held (g.O.Sink.seen c.loop-done.out).held
    (omega (arith, c.loop-done.invariant.within, c.count-count.ensures.value)) (ap is_some c.loop-done.invariant.stands) (begun (g.O.Sink.seen c.args.out.now).held (g.O.Sink.seen c.loop-done.out).held (header c.args.circuit.now ++ sample_lines (run_under c.args.circuit.now c.args.stimulus.now) c.loop-done.done) c.loop-done.text.items c.loop-done.invariant.printed)

pub loop-done-preserved : goal.loop-done-preserved
loop-done-preserved g c =
    let went = c.trace_sample.ensures.settled (c.in_ok-trace_sample.was ∙ ap Ok c.if-not-branch.false) c.loop-done.invariant.stands in
    record {
      within = omega (arith, c.loop-done-test.true);
      room = c.trace_sample.ensures.room ∙ c.loop-done.invariant.room;
      fits = c.trace_sample.ensures.fits;
      stands = ap (standing_after (run_under c.args.circuit.now c.args.stimulus.now)) (add-one c.loop-done.done) ∙ went.0;
      printed = printed_more (run_under c.args.circuit.now c.args.stimulus.now) c.loop-done.done (g.O.Sink.seen c.args.out.now).held (g.O.Sink.seen c.loop-done.out).held (g.O.Sink.seen c.flush_long.new.out).held c.loop-done.text.items c.trace_sample.new.text.items c.flush_long.new.text.items
          c.loop-done.invariant.printed went.1 c.in_ok-flush_long.ensures.ok;
      later = omega (arith, c.loop-done.invariant.later, c.flush_long.ensures.later);
    }

pub returns-in_err-flush_long-clause-begun : goal.returns-in_err-flush_long-clause-begun
returns-in_err-flush_long-clause-begun g c is =
    let went = c.trace_sample.ensures.settled (c.in_ok-trace_sample.was ∙ ap Ok c.if-not-branch.false) c.loop-done.invariant.stands in
    begun_here (run_under c.args.circuit.now c.args.stimulus.now) (c.loop-done.done + 1) (g.O.Sink.seen c.args.out.now).held (g.O.Sink.seen c.flush_long.new.out).held
    (omega (arith, c.loop-done-test.true, c.count-count.ensures.value))
    (ap is_some (ap (standing_after (run_under c.args.circuit.now c.args.stimulus.now)) (add-one c.loop-done.done) ∙ went.0))
    (begun_then (g.O.Sink.seen c.args.out.now).held (g.O.Sink.seen c.loop-done.out).held (g.O.Sink.seen c.flush_long.new.out).held (header c.args.circuit.now ++ sample_lines (run_under c.args.circuit.now c.args.stimulus.now) (c.loop-done.done + 1)) c.trace_sample.new.text.items
    (line_more (run_under c.args.circuit.now c.args.stimulus.now) c.loop-done.done (g.O.Sink.seen c.args.out.now).held (g.O.Sink.seen c.loop-done.out).held c.loop-done.text.items c.trace_sample.new.text.items c.loop-done.invariant.printed went.1)
    c.flush_long.ensures.begun)
