-- A line of the table of types.
use Rattle.std.specs.Prelude.{ℕ, List, Bool}
use Rattle.cell_library.specs.declared.line.Gives.{Gives}
use Rattle.cell_library.specs.declared.line.Parameter.{Parameter}
use Rattle.cell_library.specs.declared.line.Port.{Port}

-- a type of cells: its name, what a cell of it becomes, the parameters that it must be given, its ports, and whether each
-- port has 128 bits at most
pub record TypeLine : Type 0 where
  pub name : List ℕ
  pub gives : Gives
  pub parameters : List Parameter
  pub ports : List Port
  pub arithmetic : Bool
