use Rattle.std.proofs.Common.{◌≡◌, map}
use Rattle.std.specs.List.{range_with_len}
use Rattle.design_cells.specs.Joined.{seen_ports}
use Rattle.design_memory.specs.Memories.{write_port}
use Rattle.design_memory.proofs.ports.write_ports.Given as goal

abbrev pub invariant-loop-port : goal.invariant-loop-port
invariant-loop-port l = l.writes ≡ map (write_port l.shape l.values (seen_ports l.ports)) (range_with_len 0 l.port)
