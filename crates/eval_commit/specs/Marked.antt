-- Nodes are marked where a bit that they read has changed.
use Rattle.std.specs.Prelude.{◌≡◌, ℕ, ◌<◌, ◌⊎◌, List, length, Some, slice_get}
use Rattle.sim_base.specs.BitValue.{BitValue}
use Rattle.circuit.specs.declared.netlist.Drive.{Drive}
use Rattle.dirty_set.specs.Marks.{IsMarked}
use Rattle.driver_check.specs.Depends.{Bit}
use Rattle.driver_check.specs.declared.parts.Node.TheVariants as node
use Rattle.driver_check.specs.declared.parts.Node.{Node}
use Rattle.eval_plan.specs.Roots.{CoversIn}
use Rattle.eval_plan.specs.Tables.{table_row}
use Rattle.eval_plan.specs.declared.table.Table.{Table}
use Rattle.signal_words.specs.Values.{digits_in}

-- the first t of the listed numbers are marked too, and what was marked
pub record AreMarkedToo (row : List ℕ) (t : ℕ) (before after : BitValue) : Type 0 where
  pub width : after.width ≡ before.width
  pub listed : (j k : ℕ) → j < t → slice_get row j ≡ Some k → IsMarked after k
  pub kept : (k : ℕ) → IsMarked before k → IsMarked after k
  pub only : (k : ℕ) → IsMarked after k → IsMarked before k ⊎ ((j : ℕ) × (slice_get row j ≡ Some k))

-- there is a mark for each reader
abbrev pub HaveMarks : Table → BitValue → Type 0
HaveMarks readers marks = (l i k : ℕ) → slice_get (table_row readers l) i ≡ Some k → k < marks.width

-- what reads the root that covers a bit is marked
abbrev pub AreReadersMarked : List Drive → Table → BitValue → Bit → Type 0
AreReadersMarked roots readers marks x = (l i k : ℕ) (r : Drive) → CoversIn roots l r x → slice_get (table_row readers l) i ≡ Some k → IsMarked marks k

-- each bit has what it had, or what reads its root is marked; and what was marked is
pub record AreTold (roots : List Drive) (readers : Table) (old new : List BitValue) (before after : BitValue) : Type 0 where
  pub width : after.width ≡ before.width
  pub kept : (k : ℕ) → IsMarked before k → IsMarked after k
  pub bits : (x : Bit) → (digits_in new x.0 x.1 ≡ digits_in old x.0 x.1) ⊎ AreReadersMarked roots readers after x

-- what is marked besides reads one of the listed roots
abbrev pub ReadListed : Table → List ℕ → BitValue → BitValue → Type 0
ReadListed readers places before after = (k : ℕ) → IsMarked after k → IsMarked before k ⊎ ((j l i : ℕ) × (slice_get places j ≡ Some l) × (slice_get (table_row readers l) i ≡ Some k))

-- the places of the read ports among the first t nodes are listed, and none but places of nodes
pub record AreReadPlacesBelow (nodes : List Node) (t : ℕ) (places : List ℕ) : Type 0 where
  pub every : (k m n : ℕ) → k < t → slice_get nodes k ≡ Some (node.Read m n) → (j : ℕ) × (slice_get places j ≡ Some k)
  pub there : (j k : ℕ) → slice_get places j ≡ Some k → k < length nodes

abbrev pub AreReadPlaces : List Node → List ℕ → Type 0
AreReadPlaces nodes places = AreReadPlacesBelow nodes (length nodes) places
