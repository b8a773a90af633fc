use Rattle.std.proofs.Common.{◌≡◌, map, take}
use Rattle.circuit.specs.Shown.{flag}
use Rattle.spool_format.specs.Reading.{written_at}
use Rattle.run_core.proofs.words.put_fired.Given as goal

abbrev pub invariant-loop-d : goal.invariant-loop-d
invariant-loop-d l = l.words ≡ written_at l.fn.words l.place (take l.d (map flag l.machine.fired))
