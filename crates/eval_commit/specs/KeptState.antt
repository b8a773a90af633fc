-- The state that a machine keeps.
use Rattle.std.specs.Prelude.{List, [], ◌∷◌}
use Rattle.sim_base.specs.BitValue.{BitValue}
use Rattle.circuit.specs.State.{State, Stored}
use Rattle.memory_cells.specs.Ports.{stored}
use Rattle.memory_cells.specs.Rows.{RowValues}
use Rattle.sim_base.specs.Values.{numbers}

-- the rows of each memory, and the values of its read ports
unfoldable pub stored_all : List RowValues → List (List BitValue) → List Stored
stored_all [] outs = []
stored_all (r ∷ rs) [] = []
stored_all (r ∷ rs) (o ∷ os) = stored r o ∷ stored_all rs os

-- the state: these registers and these memories
abbrev pub kept_state : List BitValue → List RowValues → List (List BitValue) → State
kept_state regs rows outs = record { regs = numbers regs; mems = stored_all rows outs }
