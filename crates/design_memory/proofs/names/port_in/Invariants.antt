use Rattle.std.proofs.Common.{◌≡◌, drop}
use Rattle.design_memory.specs.Names.{port_in}
use Rattle.design_memory.proofs.names.port_in.Given as goal

abbrev pub invariant-loop-port : goal.invariant-loop-port
invariant-loop-port l = port_in l.ports l.name ≡ port_in (drop l.port-index l.ports) l.name
