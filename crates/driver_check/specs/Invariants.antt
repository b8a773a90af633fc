-- What holds inside the search for faults and for an order: no reader of the public definitions needs it.
use Rattle.std.specs.Prelude.{◌≡◌, ℕ, ◌-◌, ◌^◌, ◌<◌, ◌≤◌, ◌⊎◌, List, length, Some, slice_get, slice_index, true, false, suc, ◌+◌, zero, [], ◌∷◌, sum_by}
use Rattle.circuit.specs.Valuation.{covers}
use Rattle.circuit.specs.declared.netlist.Circuit.{Circuit}
use Rattle.circuit.specs.declared.netlist.Drive.{Drive}
use Rattle.driver_check.specs.declared.graph.Span.{Span}
use Rattle.driver_check.specs.declared.search.Frame.{Frame}
use Rattle.driver_check.specs.declared.search.Mark.TheVariants as mark
use Rattle.driver_check.specs.declared.search.Mark.{Mark}
use Rattle.driver_check.specs.declared.sorting.Sorting.{Sorting}
use Rattle.driver_check.specs.Depends.{Bit}
use Rattle.driver_check.specs.Faults.{Covers, IsShared, IsFirstStuck, IsNext}
use Rattle.driver_check.specs.Numbers.{IsBit, bit_number}
use Rattle.driver_check.specs.Search.{Has, Needs, Rows}

-- ---- bits with two drives

-- the least number of a bit that one of the first i drives shares with an earlier one, or else how many bits there are
pub record IsLeastShared (c : Circuit) (i least bits : ℕ) : Type 0 where
  pub most : least ≤ bits
  pub below : (x : Bit) (j : ℕ) → IsBit c.nets x → j < i → Covers c j x → (k : ℕ) → k < j → Covers c k x → least ≤ bit_number c.nets x
  pub is : (least ≡ bits) ⊎ ((x : Bit) × IsBit c.nets x × IsShared c x × (bit_number c.nets x ≡ least))

-- a place behind another one of a drive that covers a bit, and none between them does; or else how many drives there are
pub record IsNextCover (drives : List Drive) (first net bit place : ℕ) : Type 0 where
  pub behind : first < place
  pub no_other : (k : ℕ) (d : Drive) → first < k → k < place → slice_get drives k ≡ Some d → covers net bit d ≡ false
  pub is : (place ≡ length drives) ⊎ ((d : Drive) × (slice_get drives place ≡ Some d) × (covers net bit d ≡ true))

-- ---- the search

-- a vertex stands in one of the spans before a place: a span, and an offset in it
abbrev pub WasSeen : List Span → ℕ → ℕ → ℕ → Type 0
WasSeen spans at offset w = (i : ℕ) × (s : Span) × (slice_get spans i ≡ Some s) × (s.first ≤ w) × (w < s.first + s.width) × ((i < at) ⊎ ((i ≡ at) × (w < s.first + offset)))

pub record IsSearch (row : Rows) (marks : List Mark) (order : List ℕ) (stack : List Frame) : Type 0 where
  pub order_done : (i v : ℕ) → slice_get order i ≡ Some v → Has marks mark.Done v
  pub done_order : (v : ℕ) → Has marks mark.Done v → (i : ℕ) × (slice_get order i ≡ Some v)
  pub single : (i j v : ℕ) → slice_get order i ≡ Some v → slice_get order j ≡ Some v → i ≡ j
  pub ready : (i v w : ℕ) → slice_get order i ≡ Some v → Needs (row v) w → (j : ℕ) × (j < i) × (slice_get order j ≡ Some w)
  pub stuck : (v : ℕ) → Has marks mark.Stuck v → (w : ℕ) × Needs (row v) w × Has marks mark.Stuck w
  pub entered : (v : ℕ) → Has marks mark.Open v → (k : ℕ) × (f : Frame) × (slice_get stack k ≡ Some f) × (f.vertex ≡ v)
  pub frames : (k : ℕ) (f : Frame) → slice_get stack k ≡ Some f → Has marks mark.Open f.vertex
  pub apart : (i j : ℕ) (f g : Frame) → slice_get stack i ≡ Some f → slice_get stack j ≡ Some g → f.vertex ≡ g.vertex → i ≡ j
  pub links : (k : ℕ) (f g : Frame) → slice_get stack k ≡ Some f → slice_get stack (suc k) ≡ Some g → Needs (row f.vertex) g.vertex
  pub seen : (k w : ℕ) (f : Frame) → slice_get stack k ≡ Some f → WasSeen (row f.vertex) f.span f.offset w → Has marks mark.Done w

-- the vertices of the frames have marks
abbrev pub AreFramesInside : List Mark → List Frame → Type 0
AreFramesInside marks stack = (k : ℕ) (f : Frame) → slice_get stack k ≡ Some f → f.vertex < length marks

-- no vertex is new that was not
abbrev pub IsNoNewer : List Mark → List Mark → Type 0
IsNoNewer was now = (v : ℕ) → Has now mark.New v → Has was mark.New v

-- how many turns of the search a row can take from a place on: one for each vertex and each span that is left, and one for the end
unfoldable pub turns_left : List Span → ℕ → ℕ → ℕ
turns_left [] at offset = 1
turns_left (s ∷ spans) zero offset = suc (s.width - offset) + turns_left spans 0 0
turns_left (s ∷ spans) (suc at) offset = turns_left spans at offset

-- what the vertices on the stack can take
abbrev pub frame_turns : Rows → List Frame → ℕ
frame_turns row stack = sum_by (λ f. turns_left (row f.vertex) f.span f.offset) stack

abbrev pub turns_if_new : Mark → ℕ → ℕ
turns_if_new mark.New n = suc n
turns_if_new mark.Open n = 0
turns_if_new mark.Done n = 0
turns_if_new mark.Stuck n = 0

-- what the vertices that were not met can take
unfoldable pub mark_turns : Rows → List Mark → ℕ
mark_turns row [] = 0
mark_turns row (m ∷ marks) = turns_if_new m (turns_left (row 0) 0 0) + mark_turns (λ v. row (suc v)) marks

-- what the search can take: each step takes one of it
abbrev pub turns : Rows → List Mark → List Frame → ℕ
turns row marks stack = mark_turns row marks + frame_turns row stack

-- ---- the walk along a cycle

-- the least number of a bit that is stuck, or else how many bits there are
pub record IsFirstMarked (s : Sorting) (v : ℕ) : Type 0 where
  pub below : (u : ℕ) → u < v → Has s.search.marks.items mark.Stuck u → ⊥
  pub is : v < s.numbering.bits → Has s.search.marks.items mark.Stuck v

-- the least stuck vertex in a row, or else a bound
pub record IsLeastStuck (marks : List Mark) (row : List Span) (bound v : ℕ) : Type 0 where
  pub most : v ≤ bound
  pub below : (w : ℕ) → Needs row w → Has marks mark.Stuck w → v ≤ w
  pub is : (v ≡ bound) ⊎ (Needs row v × Has marks mark.Stuck v)

-- no place in a walk
abbrev pub nowhere : ℕ
nowhere = 2 ^ 64 - 1

-- a walk that has come to a bit with a number, and for each bit its place in the walk
pub record IsWalking (c : Circuit) (s : Sorting) (walk : List Bit) (seen : List ℕ) (v : ℕ) : Type 0 where
  pub long : length seen ≡ s.numbering.bits
  pub inside : v < s.numbering.bits
  pub here : Has s.search.marks.items mark.Stuck v
  pub at : (k : ℕ) (x : Bit) → slice_get walk k ≡ Some x → IsBit c.nets x × (slice_index seen (bit_number c.nets x) ≡ k)
  pub back : (u : ℕ) → u < s.numbering.bits → slice_index seen u < length walk → (x : Bit) × (slice_get walk (slice_index seen u) ≡ Some x) × (bit_number c.nets x ≡ u)
  pub either : (u : ℕ) → u < s.numbering.bits → (slice_index seen u < length walk) ⊎ (slice_index seen u ≡ nowhere)
  pub start : (x : Bit) → slice_get walk 0 ≡ Some x → IsFirstStuck c x
  pub unmoved : length walk ≡ 0 → IsFirstMarked s v
  pub turn : (k : ℕ) (x y : Bit) → slice_get walk k ≡ Some x → slice_get walk (suc k) ≡ Some y → IsNext c x y
  pub last : (k : ℕ) (x y : Bit) → suc k ≡ length walk → slice_get walk k ≡ Some x → IsBit c.nets y → bit_number c.nets y ≡ v → IsNext c x y
