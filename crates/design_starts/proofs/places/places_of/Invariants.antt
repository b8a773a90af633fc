use Rattle.std.proofs.Common.{◌≡◌, ℕ, ◌<◌, length}
use Rattle.std.specs.Prelude.{slice_index}
use Rattle.driver_check.specs.Numbers.{before, width_of}
use Rattle.design_starts.proofs.places.places_of.Given as goal

abbrev pub invariant-loop-net : goal.invariant-loop-net
invariant-loop-net l = record {
  long : length l.firsts.items ≡ l.net-index;
  first : (n : ℕ) → n < l.net-index → slice_index l.firsts.items n ≡ before width_of l.nets n;
  total : l.bits ≡ before width_of l.nets l.net-index;
}
