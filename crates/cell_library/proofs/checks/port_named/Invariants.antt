use Rattle.std.proofs.Common.{◌≡◌, drop}
use Rattle.cell_library.specs.Checks.{port_named}
use Rattle.cell_library.proofs.checks.port_named.Given as goal

abbrev pub invariant-loop-port : goal.invariant-loop-port
invariant-loop-port l = port_named l.ports l.name ≡ port_named (drop l.port-index l.ports) l.name
