use Rattle.std.proofs.Common.{◌≡◌, ◌++◌, flat_map, take}
use Rattle.design_cells.specs.Joined.{seen_ports}
use Rattle.design_instances.specs.Joins.{missing_drives}
use Rattle.design_instances.proofs.joins.join_others.Given as goal

abbrev pub invariant-loop-at : goal.invariant-loop-at
invariant-loop-at l = l.draft ≡ (record l.fn.draft { drives = l.fn.draft.drives ++ flat_map (missing_drives l.fn.inside (seen_ports l.joined)) (take l.at l.ports) })
