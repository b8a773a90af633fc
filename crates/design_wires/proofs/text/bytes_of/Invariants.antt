use Rattle.std.proofs.Common.{◌≡◌, ◌-◌, ◌*◌, ◌/◌, ◌^◌}
use Rattle.design_wires.specs.Texts.{bytes_of}
use Rattle.design_wires.proofs.text.bytes_of.Given as goal

abbrev pub invariant-loop-done : goal.invariant-loop-done
invariant-loop-done l = l.bytes.items ≡ bytes_of l.done (l.value.number / 2 ^ (8 * (l.count - l.done)))
