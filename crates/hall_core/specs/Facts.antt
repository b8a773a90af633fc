-- What the rules ask of a run, of a circuit under its samples.
use Rattle.circuit.specs.Rounds.{Run, run_length}
use Rattle.circuit.specs.Shown.{hits}
use Rattle.hall_core.specs.Legal.{RunFacts}

abbrev pub facts_of : Run → RunFacts
facts_of run = record { count = run.count; length = run_length run; hits = hits run }
