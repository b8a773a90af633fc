use Rattle.std.proofs.Common.{◌≡◌, map, take}
use Rattle.stimulus.specs.Inputs.{width_of}
use Rattle.stimulus.proofs.inputs.widths_of.Given as goal

abbrev pub invariant-loop-net : goal.invariant-loop-net
invariant-loop-net l = l.widths.items ≡ map (width_of l.circuit) (take l.net-index l.nets)
