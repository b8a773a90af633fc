use Rattle.std.proofs.Common.{◌≡◌, map, take}
use Rattle.driver_check.specs.Faults.{named}
use Rattle.driver_check.proofs.walk.named_bits.Given as goal

abbrev pub invariant-loop-bit : goal.invariant-loop-bit
invariant-loop-bit l = l.named ≡ map (named l.circuit) (take l.bit-index l.bits)
