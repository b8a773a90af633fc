use Rattle.std.proofs.Common.{take}
use Rattle.std.specs.Prelude.{bytes_eq}
use Rattle.stimulus.specs.Inputs.{TellsPlaces, item_names}
use Rattle.stimulus.proofs.inputs.places_of_items.Given as goal

abbrev pub invariant-loop-at : goal.invariant-loop-at
invariant-loop-at l = TellsPlaces bytes_eq (take l.at (item_names l.items)) l.places
