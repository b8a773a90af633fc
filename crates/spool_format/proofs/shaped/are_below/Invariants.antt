use Rattle.std.proofs.Common.{◌≡◌}
use Rattle.spool_format.specs.Records.{AreBelow, place_of}
use Rattle.spool_format.proofs.shaped.are_below.Given as goal

abbrev pub invariant-loop-width : goal.invariant-loop-width
invariant-loop-width l = record {
  place : l.place ≡ place_of l.widths l.width-index;
  below : AreBelow l.widths l.words l.width-index;
}
