use Rattle.std.proofs.Common.{◌≡◌, ◌≤◌, ◌-◌}
use Rattle.std.specs.Prelude.{vec_len}
use Rattle.hall_core.specs.Replay.{replay}
use Rattle.solo_session.specs.Pace.{input_limit}
use Rattle.solo_session.specs.Reading.{IsReading}
use Rattle.solo_session.specs.Solo.{outset_of}
use Rattle.solo_session.specs.Session.{IsServing, conversation}
use Rattle.solo_session.proofs.solo.serve.Given as goal

abbrev pub invariant-loop-session : goal.invariant-loop-session
invariant-loop-session g l = record {
  reading : IsReading (outset_of (g.F.Followed.run l.fn.session.samples) (g.I.Source.seen l.fn.input) (g.O.Sink.seen l.fn.out)) (g.I.Source.seen l.input).left (g.O.Sink.seen l.out).held (conversation g.F.Followed.run l.session) l.framer l.taken;
  serving : IsServing (g.F.Followed.run l.session.samples) (replay l.session.history);
  run : l.session.samples ≡ l.fn.session.samples;
  within : l.taken ≤ input_limit;
  room : vec_len l.piece ≡ 65536;
  input : (g.I.Source.seen l.input).faults ≡ (g.I.Source.seen l.fn.input).faults;
  output : (g.O.Sink.seen l.out).faults ≡ (g.O.Sink.seen l.fn.out).faults;
}

abbrev pub decreases-loop-session : goal.decreases-loop-session
decreases-loop-session g l = input_limit - l.taken
