use Rattle.std.proofs.Common.{◌≡◌, ◌++◌, take}
use Rattle.std.specs.List.{filter, flat_map}
use Rattle.trace_text.specs.Text.{is_node, node_line}
use Rattle.trace_text.proofs.printer.push_nodes.Given as goal

abbrev pub invariant-loop-item : goal.invariant-loop-item
invariant-loop-item l = l.text.items ≡ l.fn.text.items ++ flat_map (node_line l.circuit) (filter (λ i. is_node i.kind) (take l.item-index l.item-items))
