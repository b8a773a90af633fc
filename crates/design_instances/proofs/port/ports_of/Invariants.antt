use Rattle.std.proofs.Common.{◌≡◌, drop}
use Rattle.design_instances.specs.Ports.{ports_behind, ports_of}
use Rattle.design_instances.proofs.port.ports_of.Given as goal

abbrev pub invariant-loop-statement : goal.invariant-loop-statement
invariant-loop-statement l = ports_behind l.ports (drop l.statement-index l.statements) ≡ ports_of l.statements
