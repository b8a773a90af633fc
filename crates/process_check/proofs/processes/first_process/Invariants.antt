use Rattle.std.proofs.Common.{◌≡◌, drop, flat_map}
use Rattle.process_check.specs.Processes.{places_in, process_places}
use Rattle.process_check.proofs.processes.first_process.Given as goal

abbrev pub invariant-loop-module : goal.invariant-loop-module
invariant-loop-module l = process_places l.file ≡ flat_map places_in (drop l.module-index l.file.modules)
