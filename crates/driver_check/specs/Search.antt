-- A graph whose vertices are sorted by what they need.
use Rattle.std.specs.Prelude.{◌≡◌, ℕ, ◌-◌, ◌<◌, ◌≤◌, ◌⊎◌, List, length, Some, slice_get, ◌+◌, [], ◌∷◌, Option, None, nat_lt, if◌then◌else◌}
use Rattle.driver_check.specs.declared.graph.Graph.{Graph}
use Rattle.driver_check.specs.declared.graph.Span.{Span}
use Rattle.driver_check.specs.declared.search.Mark.TheVariants as mark
use Rattle.driver_check.specs.declared.search.Mark.{Mark}

abbrev pub one_span : Option Span → List Span
one_span None = []
one_span (Some s) = s ∷ []

abbrev pub all_spans : Option (List Span) → List Span
all_spans None = []
all_spans (Some spans) = spans

-- the spans of what a vertex needs: those of bits come first
abbrev pub row_of : Graph → ℕ → List Span
row_of g v = if nat_lt v (length g.bits.items) then one_span (slice_get g.bits.items v) else all_spans (slice_get g.nodes.items (v - length g.bits.items))

abbrev pub size_of_graph : Graph → ℕ
size_of_graph g = length g.bits.items + length g.nodes.items

-- a vertex stands in one of the spans
abbrev pub Needs : List Span → ℕ → Type 0
Needs spans w = (i : ℕ) × (s : Span) × (slice_get spans i ≡ Some s) × (s.first ≤ w) × (w < s.first + s.width)

abbrev pub Rows : Type 0
Rows = ℕ → List Span

-- what is needed is a vertex
abbrev pub AreInside : Rows → ℕ → Type 0
AreInside row size = (v w : ℕ) → Needs (row v) w → w < size

-- the vertex has the mark
abbrev pub Has : List Mark → Mark → ℕ → Type 0
Has marks m v = slice_get marks v ≡ Some m

-- the vertices in an order, each behind all that it needs, and those that are left, each of which needs one that is left
pub record IsSorted (row : Rows) (size : ℕ) (marks : List Mark) (order : List ℕ) : Type 0 where
  pub sized : length marks ≡ size
  pub order_done : (i v : ℕ) → slice_get order i ≡ Some v → Has marks mark.Done v
  pub done_order : (v : ℕ) → Has marks mark.Done v → (i : ℕ) × (slice_get order i ≡ Some v)
  pub single : (i j v : ℕ) → slice_get order i ≡ Some v → slice_get order j ≡ Some v → i ≡ j
  pub ready : (i v w : ℕ) → slice_get order i ≡ Some v → Needs (row v) w → (j : ℕ) × (j < i) × (slice_get order j ≡ Some w)
  pub stuck : (v : ℕ) → Has marks mark.Stuck v → (w : ℕ) × Needs (row v) w × Has marks mark.Stuck w
  pub either : (v : ℕ) → v < size → Has marks mark.Done v ⊎ Has marks mark.Stuck v
