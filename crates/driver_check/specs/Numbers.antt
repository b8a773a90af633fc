-- The numbers of the vertices of a circuit's graph: the bits of its nets, its cells, and the read ports of its memories.
use Rattle.std.specs.Prelude.{◌≡◌, ℕ, zero, suc, ◌+◌, ◌<◌, ◌≤◌, List, [], ◌∷◌, length, Some, slice_get, slice_index}
use Rattle.circuit.specs.declared.netlist.Drive.{Drive}
use Rattle.circuit.specs.declared.netlist.Net.{Net}
use Rattle.circuit.specs.declared.memory.Mem.{Mem}
use Rattle.driver_check.specs.Depends.{Bit}

-- how many bits or other parts come before the n-th of a list
abbrev pub before : {X : Type 0} → (X → ℕ) → List X → ℕ → ℕ
before size [] n = 0
before size (x ∷ xs) zero = 0
before size (x ∷ xs) (suc n) = size x + before size xs n

abbrev pub width_of : Net → ℕ
width_of x = x.width

abbrev pub read_count : Mem → ℕ
read_count m = length m.reads

-- the number of a bit among all bits of all nets
abbrev pub bit_number : List Net → Bit → ℕ
bit_number nets x = before width_of nets x.0 + x.1

-- how many bits all nets have
abbrev pub bit_count : List Net → ℕ
bit_count nets = before width_of nets (length nets)

-- a bit of one of the nets
abbrev pub IsBit : List Net → Bit → Type 0
IsBit nets x = (n : Net) × (slice_get nets x.0 ≡ Some n) × (x.1 < n.width)

-- the number of the first bit of each net, and of all bits
pub record IsNumbering (nets : List Net) (firsts : List ℕ) (bits : ℕ) : Type 0 where
  pub long : length firsts ≡ length nets
  pub first : (n : ℕ) → n < length nets → slice_index firsts n ≡ before width_of nets n
  pub total : bits ≡ bit_count nets

-- the bits from a number on
abbrev pub IsIn : ℕ → ℕ → ℕ → Type 0
IsIn first width v = (first ≤ v) × (v < first + width)

-- the number of the first bit of a drive
abbrev pub start_of : List Net → Drive → ℕ
start_of nets d = before width_of nets d.net + d.at

-- a drive lies inside its net
abbrev pub IsInsideNet : List Net → Drive → Type 0
IsInsideNet nets d = (x : Net) × (slice_get nets d.net ≡ Some x) × (d.at + d.width ≤ x.width)
