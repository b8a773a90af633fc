use Rattle.std.proofs.Common.{◌≡◌, map}
use Rattle.std.specs.List.{range_with_len}
use Rattle.spool_format.specs.Records.{place_of}
use Rattle.spool_replay.proofs.player.places_of.Given as goal

abbrev pub invariant-loop-width : goal.invariant-loop-width
invariant-loop-width l = record {
  places : l.places.items ≡ map (place_of l.shape) (range_with_len 0 l.width-index);
  place : l.place ≡ place_of l.shape l.width-index;
}
