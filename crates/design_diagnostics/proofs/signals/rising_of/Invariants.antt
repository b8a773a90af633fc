use Rattle.std.proofs.Common.{◌≡◌}
use Rattle.design_diagnostics.specs.Diagnostics.{rising_of}
use Rattle.design_diagnostics.proofs.signals.rising_of.Given as goal

abbrev pub invariant-loop-at : goal.invariant-loop-at
invariant-loop-at l = l.rising ≡ rising_of l.polarity l.at
