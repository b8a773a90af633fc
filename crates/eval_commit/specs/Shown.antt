-- What cells give stands in the nets.
use Rattle.std.specs.Prelude.{◌≡◌, ℕ, ◌<◌, List, length, Some, slice_get}
use Rattle.sim_base.specs.BitValue.{BitValue}
use Rattle.circuit.specs.declared.netlist.Circuit.{Circuit}
use Rattle.circuit.specs.declared.netlist.Drive.{Drive}
use Rattle.driver_check.specs.Depends.{Bit}
use Rattle.eval_plan.specs.Roots.{CoversIn}
use Rattle.eval_plan.specs.Sources.{cell_row}
use Rattle.eval_plan.specs.declared.plan.Plan.{Plan}
use Rattle.signal_words.specs.Values.{digits_in}
use Rattle.eval_commit.specs.Computed.{cell_number}
use Rattle.eval_commit.specs.Spread.{taken_digit}

-- the bits of the listed roots have what these take from a number
abbrev pub Shows : List Drive → List ℕ → ℕ → List BitValue → Type 0
Shows roots places number nets = (j k : ℕ) (r : Drive) (x : Bit) → slice_get places j ≡ Some k → CoversIn roots k r x → digits_in nets x.0 x.1 ≡ taken_digit number r x

-- those of each cell have what it gives under the nets
abbrev pub ShowsCells : Circuit → Plan → List BitValue → Type 0
ShowsCells c plan nets = (n : ℕ) → n < length c.cells → Shows plan.roots (cell_row plan.sources n) (cell_number (digits_in nets) (slice_get c.cells n)) nets
