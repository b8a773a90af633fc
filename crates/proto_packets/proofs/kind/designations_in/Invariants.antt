use Rattle.std.proofs.Common.{◌≡◌, ◌++◌, option_map, drop}
use Rattle.serde_json.specs.View.{items_view}
use Rattle.proto_packets.specs.Kind.{each_designation}
use Rattle.proto_packets.proofs.kind.designations_in.Given as goal

abbrev pub invariant-loop-value : goal.invariant-loop-value
invariant-loop-value l =
    each_designation (items_view l.list) ≡ option_map (λ more. l.found ++ more) (each_designation (items_view (drop l.value-index l.list)))
