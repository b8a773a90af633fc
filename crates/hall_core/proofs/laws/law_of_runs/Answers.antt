use Rattle.std.proofs.Common.{◌<◌, arith}
use Rattle.circuit.specs.Rounds.{run_length}
use Rattle.circuit.proofs.Length.{settled_below}
use Rattle.hall_core.specs.Facts.{facts_of}
use Rattle.hall_core.proofs.Progress.{never_passes}
use Rattle.hall_core.proofs.laws.law_of_runs.Goals as goal

pub returns : goal.returns
returns c = λ run history k legal lt.
    let within = never_passes (facts_of run) history legal in
    let below : k < run_length run = omega arith in
    settled_below run run.count k below
