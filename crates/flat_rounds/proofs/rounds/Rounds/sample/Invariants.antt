use Rattle.std.proofs.Common.{◌≡◌, ◌-◌}
use Rattle.circuit.specs.Rounds.{settled, settled_within}
use Rattle.flat_rounds.specs.Fits.{IsStandingOf}
use Rattle.flat_rounds.proofs.rounds.Rounds.sample.Given as goal

abbrev pub invariant-loop-round : goal.invariant-loop-round
invariant-loop-round l = record {
  fits : IsStandingOf l.circuit l.self;
  rest : settled_within (256 - l._round) l.circuit l.self.state l.self.nets l.inputs ≡ settled l.circuit l.fn.self l.inputs;
}
