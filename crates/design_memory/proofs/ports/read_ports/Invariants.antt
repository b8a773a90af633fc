use Rattle.std.proofs.Common.{◌≡◌, map}
use Rattle.std.specs.List.{range_with_len}
use Rattle.design_cells.specs.Joined.{seen_ports}
use Rattle.design_memory.specs.Memories.{read_port}
use Rattle.design_memory.proofs.ports.read_ports.Given as goal

abbrev pub invariant-loop-port : goal.invariant-loop-port
invariant-loop-port l = l.reads ≡ map (read_port l.shape l.values (seen_ports l.ports)) (range_with_len 0 l.port)
