-- The roots of a circuit by what they take from.
use Rattle.std.specs.Prelude.{◌≡◌, ℕ, ◌<◌, List, length, Some, slice_get, ◌+◌, [], Option, None}
use Rattle.sim_base.specs.BitValue.{BitValue}
use Rattle.circuit.specs.declared.memory.Mem.{Mem}
use Rattle.circuit.specs.declared.netlist.By.TheVariants as by
use Rattle.circuit.specs.declared.netlist.By.{By}
use Rattle.circuit.specs.declared.netlist.Circuit.{Circuit}
use Rattle.circuit.specs.declared.netlist.Drive.{Drive}
use Rattle.driver_check.specs.declared.parts.Node.TheVariants as node
use Rattle.driver_check.specs.declared.parts.Node.{Node}
use Rattle.eval_plan.specs.declared.sources.Sources.{Sources}
use Rattle.eval_plan.specs.Tables.{Lists, table_row}

-- ---- what drives

abbrev pub TakesInput : ℕ → By → Type 0
TakesInput n b = (at : ℕ) × (b ≡ by.Input n at)

abbrev pub TakesCell : ℕ → By → Type 0
TakesCell n b = (at : ℕ) × (b ≡ by.Cell n at)

abbrev pub TakesRegister : ℕ → By → Type 0
TakesRegister n b = (at : ℕ) × (b ≡ by.Reg n at)

abbrev pub TakesRead : ℕ → ℕ → By → Type 0
TakesRead m n b = (at : ℕ) × (b ≡ by.Read m n at)

-- of a cell or a read port
abbrev pub TakesPart : Node → By → Type 0
TakesPart (node.Cell n) b = TakesCell n b
TakesPart (node.Read m n) b = TakesRead m n b

abbrev pub TakesConstant : By → Type 0
TakesConstant b = (v : BitValue) × (b ≡ by.Const v)

-- a root stands at a place, and what drives it is one of these
abbrev pub RootBy : List Drive → (By → Type 0) → ℕ → Type 0
RootBy roots takes k = (r : Drive) × (slice_get roots k ≡ Some r) × takes r.by

-- ---- where the roots of a source are listed

abbrev pub input_row : Sources → ℕ → List ℕ
input_row s n = table_row s.inputs n

abbrev pub cell_row : Sources → ℕ → List ℕ
cell_row s n = table_row s.parts n

abbrev pub register_row : Sources → ℕ → List ℕ
register_row s n = table_row s.registers n

abbrev pub port_row : Sources → Option ℕ → ℕ → List ℕ
port_row s None n = []
port_row s (Some first) n = table_row s.parts (first + n)

abbrev pub read_row : Sources → ℕ → ℕ → List ℕ
read_row s m n = port_row s (slice_get s.ports.items m) n

abbrev pub constant_row : Sources → List ℕ
constant_row s = table_row s.constants 0

-- for each source the places of the roots that take from it
pub record AreSources (c : Circuit) (roots : List Drive) (s : Sources) : Type 0 where
  pub inputs : (n : ℕ) → Lists (RootBy roots (TakesInput n)) (input_row s n)
  pub cells : (n : ℕ) → n < length c.cells → Lists (RootBy roots (TakesCell n)) (cell_row s n)
  pub registers : (n : ℕ) → Lists (RootBy roots (TakesRegister n)) (register_row s n)
  pub reads : (m n : ℕ) (x : Mem) → slice_get c.mems m ≡ Some x → n < length x.reads → Lists (RootBy roots (TakesRead m n)) (read_row s m n)
  pub constants : Lists (RootBy roots TakesConstant) (constant_row s)
