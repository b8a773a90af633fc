use Rattle.std.proofs.Common.{◌≡◌, map, take}
use Rattle.driver_check.specs.Vertices.{node_spans}
use Rattle.driver_check.proofs.rows.graph_of.Given as goal

abbrev pub invariant-loop-node : goal.invariant-loop-node
invariant-loop-node l = l.nodes.items ≡ map (node_spans l.circuit) (take l.node-index l.parts.nodes.items)
