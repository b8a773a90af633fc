use Rattle.std.proofs.Common.{◌≡◌, ℕ, take}
use Rattle.circuit.specs.Rounds.{Run}
use Rattle.run_core.specs.Cursor.{left_by}
use Rattle.run_followed.specs.Fired.{kinds_among}
use Rattle.run_followed.proofs.fired.fired_kinds.Given as goal

abbrev pub invariant-loop-d : goal.invariant-loop-d
invariant-loop-d l = (run : Run) (k : ℕ) → l.machine ≡ left_by run k → l.kinds ≡ kinds_among run k (take l.d l.circuit.diags)
