-- What holds while nodes and roots are found: no reader of the public definitions needs it.
use Rattle.std.specs.Prelude.{◌≡◌, ℕ, ◌<◌, ◌⊎◌, List, Some, slice_get, slice_index, ◌+◌}
use Rattle.circuit.specs.Valuation.{drive_of}
use Rattle.circuit.specs.declared.netlist.Circuit.{Circuit}
use Rattle.circuit.specs.declared.netlist.Drive.{Drive}
use Rattle.driver_check.specs.declared.parts.Node.{Node}
use Rattle.driver_check.specs.Depends.{Bit}
use Rattle.driver_check.specs.Nodes.{part_place, IsNode}
use Rattle.driver_check.specs.Numbers.{IsBit, bit_number, bit_count}
use Rattle.eval_plan.specs.Ordered.{SourceBit, Undriven, source_within}
use Rattle.eval_plan.specs.Roots.{AreApart, CoversIn, IsRoot, IsWire}

-- ---- nodes

-- a node stands at a place of an order of vertices
abbrev pub StandsAt : Circuit → List ℕ → ℕ → Node → Type 0
StandsAt c order i n = slice_get order i ≡ Some (bit_count c.nets + part_place c n)

-- the nodes among the first t vertices of an order, in that order
pub record AreNodesOf (c : Circuit) (order : List ℕ) (t : ℕ) (nodes : List Node) : Type 0 where
  pub from : (k : ℕ) (n : Node) → slice_get nodes k ≡ Some n → IsNode c n × ((i : ℕ) × (i < t) × StandsAt c order i n)
  pub to : (i : ℕ) (n : Node) → i < t → StandsAt c order i n → IsNode c n → (k : ℕ) × (slice_get nodes k ≡ Some n)
  pub rise : (k l i j : ℕ) (n m : Node) → slice_get nodes k ≡ Some n → slice_get nodes l ≡ Some m → StandsAt c order i n → StandsAt c order j m → k < l → i < j

-- ---- for each bit the bit at which its chain of wires ends

-- the number of the bit at which the wires from a bit end: it has no wire, and each source of it is one of the bit
pub record IsOrigin (c : Circuit) (x : Bit) (v : ℕ) : Type 0 where
  pub bit : Bit
  pub inside : IsBit c.nets bit
  pub number : bit_number c.nets bit ≡ v
  pub ends : (d : Drive) → drive_of c bit.0 bit.1 ≡ Some d → IsWire d.by → ⊥
  pub leads : (s : ℕ) (o : SourceBit) → source_within c s bit.0 bit.1 ≡ Some o → (r : ℕ) × (source_within c r x.0 x.1 ≡ Some o)

-- the origins of the bits among the first t vertices of an order
abbrev pub AreOrigins : Circuit → List ℕ → ℕ → List ℕ → Type 0
AreOrigins c order t origins = (i : ℕ) (x : Bit) → i < t → IsBit c.nets x → slice_get order i ≡ Some (bit_number c.nets x) → IsOrigin c x (slice_index origins (bit_number c.nets x))

-- the origins of all bits
abbrev pub AreAllOrigins : Circuit → List ℕ → Type 0
AreAllOrigins c origins = (x : Bit) → IsBit c.nets x → IsOrigin c x (slice_index origins (bit_number c.nets x))

-- ---- roots

-- a bit of one of the first p drives, or of the first so many bits of the next one
abbrev pub IsDone : Circuit → ℕ → ℕ → ℕ → Drive → Bit → Type 0
IsDone c p a k d x = (k < p) ⊎ ((k ≡ p) × (x.1 < d.at + a))

-- the roots of the first p drives, and of the first a bits of the next one
pub record AreRootsOf (c : Circuit) (p a : ℕ) (roots : List Drive) : Type 0 where
  pub right : (i : ℕ) (r : Drive) → slice_get roots i ≡ Some r → IsRoot c r
  pub claimed : (i : ℕ) (r : Drive) (x : Bit) → CoversIn roots i r x → (k : ℕ) × (d : Drive) × CoversIn c.drives k d x × IsDone c p a k d x
  pub whole : (k : ℕ) (d : Drive) (x : Bit) → CoversIn c.drives k d x → IsDone c p a k d x → ((i : ℕ) × (r : Drive) × CoversIn roots i r x) ⊎ ((s : ℕ) × (source_within c s x.0 x.1 ≡ Some Undriven))
  pub once : AreApart roots

-- from a bit on, so many bits have origins in a row, which have one owner
abbrev pub IsRun : List ℕ → List ℕ → ℕ → ℕ → Type 0
IsRun owners origins first count = (j : ℕ) → j < count → (slice_index origins (first + j) ≡ slice_index origins first + j) × (slice_index owners (slice_index origins first + j) ≡ slice_index owners (slice_index origins first))
