use Rattle.std.proofs.Common.{◌≡◌, ◌++◌, ◌≤◌, ◌-◌, Some, length}
use Rattle.circuit.specs.Rounds.{standing_after}
use Rattle.flat_rounds.specs.Fits.{IsStandingOf}
use Rattle.flat_run.specs.Run.{run_under}
use Rattle.cxxsim.specs.Trace.{HasLeft}
use Rattle.cxxsim.specs.TraceText.{header, sample_lines}
use Rattle.cxxsim.proofs.tracing.write_samples.Given as goal

abbrev pub invariant-loop-done : goal.invariant-loop-done
invariant-loop-done g l = record {
  within : l.done ≤ l.count;
  room : length l.inputs ≡ length l.circuit.inputs;
  fits : IsStandingOf l.circuit l.rounds;
  stands : standing_after (run_under l.circuit l.stimulus) l.done ≡ Some l.rounds;
  printed : HasLeft (g.O.Sink.seen l.fn.out).held (g.O.Sink.seen l.out).held (header l.circuit ++ sample_lines (run_under l.circuit l.stimulus) l.done) l.text.items;
  later : (g.O.Sink.seen l.fn.out).faults ≤ (g.O.Sink.seen l.out).faults;
}

abbrev pub decreases-loop-done : goal.decreases-loop-done
decreases-loop-done g l = l.count - l.done
