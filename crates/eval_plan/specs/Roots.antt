-- The roots of a circuit: drives with the wires between left out.
use Rattle.std.specs.Prelude.{◌≡◌, ℕ, ◌-◌, ◌<◌, List, Some, slice_get, true, Option, None}
use Rattle.circuit.specs.Valid.{drive_fits, drivers_of}
use Rattle.circuit.specs.Valuation.{covers}
use Rattle.circuit.specs.declared.netlist.By.TheVariants as by
use Rattle.circuit.specs.declared.netlist.By.{By}
use Rattle.circuit.specs.declared.netlist.Circuit.{Circuit}
use Rattle.circuit.specs.declared.netlist.Drive.{Drive}
use Rattle.driver_check.specs.Depends.{Bit}
use Rattle.eval_plan.specs.Ordered.{SourceBit, Undriven, source_by, source_within}

-- a wire
abbrev pub IsWire : By → Type 0
IsWire b = (n : ℕ) × (at : ℕ) × (b ≡ by.Wire n at)

-- the source that a root names for its i-th bit; a wire is none
abbrev pub root_source : By → ℕ → Option SourceBit
root_source b i = source_by (λ n at. None) b i

-- a drive of a list covers a bit
abbrev pub CoversIn : List Drive → ℕ → Drive → Bit → Type 0
CoversIn drives i d x = (slice_get drives i ≡ Some d) × (covers x.0 x.1 d ≡ true)

-- a root has bits and no wire behind it, lies inside its net and inside what it takes from, and names the source of each bit
-- that it covers
pub record IsRoot (c : Circuit) (r : Drive) : Type 0 where
  pub wide : 0 < r.width
  pub unwired : IsWire r.by → ⊥
  pub inside : drive_fits (drivers_of c) r ≡ true
  pub names : (x : Bit) → covers x.0 x.1 r ≡ true → (s : ℕ) × (o : SourceBit) × (source_within c s x.0 x.1 ≡ Some o) × (root_source r.by (x.1 - r.at) ≡ Some o)

-- no two drives of a list share a bit
abbrev pub AreApart : List Drive → Type 0
AreApart drives = (i j : ℕ) (r q : Drive) (x : Bit) → CoversIn drives i r x → CoversIn drives j q x → i ≡ j

-- the roots of a circuit
pub record AreRoots (c : Circuit) (roots : List Drive) : Type 0 where
  pub right : (i : ℕ) (r : Drive) → slice_get roots i ≡ Some r → IsRoot c r
  -- no two share a bit
  pub once : AreApart roots
  -- a bit that no root covers has no driver at the end of its wires
  pub undriven : (x : Bit) → ((i : ℕ) (r : Drive) → CoversIn roots i r x → ⊥) → (s : ℕ) × (source_within c s x.0 x.1 ≡ Some Undriven)
  -- and a bit that one covers has a driver there
  pub driven : (i s : ℕ) (r : Drive) (x : Bit) → CoversIn roots i r x → source_within c s x.0 x.1 ≡ Some Undriven → ⊥
