use Rattle.std.proofs.Common.{◌≡◌, drop, flat_map}
use Rattle.process_check.specs.Processes.{places_in, process_place}
use Rattle.process_check.proofs.processes.first_in.Given as goal

abbrev pub invariant-loop-statement : goal.invariant-loop-statement
invariant-loop-statement l = places_in l.owner ≡ flat_map process_place (drop l.statement-index l.owner.statements)
