use Rattle.std.proofs.Common.{◌≡◌, ◌++◌, flat_map, take}
use Rattle.design_cells.specs.Joined.{seen_ports}
use Rattle.design_instances.specs.Joins.{port_drives}
use Rattle.design_instances.proofs.joins.join_ports.Given as goal

abbrev pub invariant-loop-port : goal.invariant-loop-port
invariant-loop-port l = l.draft ≡ (record l.fn.draft { drives = l.fn.draft.drives ++ flat_map (port_drives l.inside l.fn.ports) (seen_ports (take l.port-index l.joined)) })
