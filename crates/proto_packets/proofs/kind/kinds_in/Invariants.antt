use Rattle.std.proofs.Common.{◌≡◌, option_map, drop}
use Rattle.serde_json.specs.View.{items_view}
use Rattle.proto_packets.specs.Kind.{kinds_named, each_text}
use Rattle.proto_packets.proofs.Loops.{with_kinds}
use Rattle.proto_packets.proofs.kind.kinds_in.Given as goal

abbrev pub invariant-loop-value : goal.invariant-loop-value
invariant-loop-value l =
    option_map kinds_named (each_text (items_view l.texts)) ≡ option_map (with_kinds l.kinds) (each_text (items_view (drop l.value-index l.texts)))
