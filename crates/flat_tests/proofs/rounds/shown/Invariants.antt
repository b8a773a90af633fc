use Rattle.flat_rounds.specs.Fits.{IsStandingOf}
use Rattle.flat_tests.proofs.rounds.shown.Given as goal

abbrev pub invariant-loop-row : goal.invariant-loop-row
invariant-loop-row g l = IsStandingOf l.circuit l.rounds
