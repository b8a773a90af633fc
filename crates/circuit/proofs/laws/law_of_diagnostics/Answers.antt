use Rattle.circuit.proofs.Rounds.{fires_untriggered}
use Rattle.circuit.proofs.laws.law_of_diagnostics.Goals as goal

pub returns : goal.returns
returns c = λ run k s d none is. fires_untriggered run k s d none is
