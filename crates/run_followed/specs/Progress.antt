-- How far a run has been followed.
use Rattle.std.specs.Prelude.{◌≡◌, ℕ, ◌<◌, length, Some, slice_get}
use Rattle.sim_base.specs.declared.kinds.Kinds.{Kinds}
use Rattle.circuit.specs.declared.netlist.Circuit.{Circuit}
use Rattle.stimulus_blocks.specs.Courses.{Course, run_of, sample_count}
use Rattle.run_core.specs.Cursor.{IsCursor}
use Rattle.run_followed.specs.Fired.{kinds_at}
use Rattle.run_followed.specs.declared.progress.Progress.{Progress}

-- the samples of a cursor were followed, and for each the kinds of what fired at it are kept, if the circuit has diagnostics
pub record IsProgress (c : Circuit) (s : Course) (p : Progress) : Type 0 where
  pub cursor : IsCursor c s p.cursor
  pub room : 0 < length c.diags → length p.fired.items ≡ sample_count s
  pub fired : (k : ℕ) (kinds : Kinds) → k < p.cursor.given → slice_get p.fired.items k ≡ Some kinds → kinds ≡ kinds_at (run_of c s) k
