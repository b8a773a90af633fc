-- How far a run has been followed.
use Rattle.std.specs.Prelude.{◌≡◌, ◌≤◌, length, true, false, Some}
use Rattle.circuit.specs.Rounds.{run_length, standing_after}
use Rattle.circuit.specs.declared.netlist.Circuit.{Circuit}
use Rattle.flat_design.specs.Flat.{IsFlat}
use Rattle.flat_rounds.specs.Fits.{IsStandingOf}
use Rattle.flat_stimulus.specs.Block.{Block, sample_count}
use Rattle.flat_run.specs.Run.{AreSamples, run_under}
use Rattle.flat_run.specs.declared.progress.Progress.{Progress}

-- so many samples settle, and the circuit stands as these leave it, or the one behind them does not settle
pub record IsProgress (c : Circuit) (b : Block) (p : Progress) : Type 0 where
  pub flat : IsFlat c
  pub samples : AreSamples c b
  pub within : p.settled ≤ sample_count b
  pub room : length p.inputs.items ≡ length c.inputs
  pub fits : IsStandingOf c p.rounds
  pub stands : p.stuck ≡ false → standing_after (run_under c b) p.settled ≡ Some p.rounds
  pub ends : p.stuck ≡ true → run_length (run_under c b) ≡ p.settled
