use Rattle.hall_core.proofs.Progress.{never_falls, never_passes}
use Rattle.hall_core.proofs.laws.law_of_progress.Goals as goal

pub returns-clause-never_falls : goal.returns-clause-never_falls
returns-clause-never_falls c = never_falls

pub returns-clause-never_passes : goal.returns-clause-never_passes
returns-clause-never_passes c = never_passes
