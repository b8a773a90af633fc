use Rattle.std.proofs.Common.{refl}
use Rattle.circuit.specs.Signal.{gathered}
use Rattle.worked_rows.proofs.rows.worked_registers.Goals as goal

pub returns-clause-cleared : goal.returns-clause-cleared
unfolding gathered
returns-clause-cleared c = refl
