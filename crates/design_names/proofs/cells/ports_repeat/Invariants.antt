use Rattle.std.proofs.Common.{◌≡◌, [], drop, map}
use Rattle.design_names.specs.Clashes.{port_name}
use Rattle.design_names.specs.Names.{any_again}
use Rattle.design_names.proofs.cells.ports_repeat.Given as goal

abbrev pub invariant-loop-connection : goal.invariant-loop-connection
invariant-loop-connection l = any_again l.names (map port_name (drop l.connection-index l.connections)) ≡ any_again [] (map port_name l.connections)
