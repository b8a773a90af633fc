-- What the two faults of a design's drives say.
use Rattle.std.specs.Prelude.{◌≡◌, ℕ, suc, ◌<◌, ◌⊎◌, List, [], ◌∷◌, length, drop, map, Option, Some, None, true, slice_get}
use Rattle.circuit.specs.Acyclic.{IsDrivenOnce}
use Rattle.circuit.specs.Valuation.{covers}
use Rattle.circuit.specs.declared.netlist.Circuit.{Circuit}
use Rattle.circuit.specs.declared.netlist.Drive.{Drive}
use Rattle.circuit.specs.declared.netlist.Net.{Net}
use Rattle.circuit.specs.declared.fault.BitAt.{BitAt}
use Rattle.circuit.specs.declared.fault.DesignFault.{DesignFault}
use Rattle.circuit.specs.declared.fault.DesignKind.TheVariants as kind
use Rattle.driver_check.specs.Depends.{Bit, DependsOn, IsBefore, IsStuck}

abbrev pub path_of : Option Net → List ℕ
path_of None = []
path_of (Some x) = x.path

-- a bit, with the path of its net
abbrev pub named : Circuit → Bit → BitAt
named c x = record { net = path_of (slice_get c.nets x.0); bit = x.1 }

-- ---- two drivers

-- the i-th drive covers a bit
abbrev pub Covers : Circuit → ℕ → Bit → Type 0
Covers c i x = (d : Drive) × (slice_get c.drives i ≡ Some d) × (covers x.0 x.1 d ≡ true)

-- two drives share a bit
abbrev pub IsShared : Circuit → Bit → Type 0
IsShared c x = (i : ℕ) × (j : ℕ) × (i < j) × Covers c i x × Covers c j x

-- the least bit that two drives share, with the first two of those that cover it
pub record IsFirstShared (c : Circuit) (x : Bit) (first second : ℕ) : Type 0 where
  pub ordered : first < second
  pub first_covers : Covers c first x
  pub second_covers : Covers c second x
  pub no_other : (i : ℕ) → i < second → Covers c i x → i ≡ first
  pub least : (y : Bit) → IsShared c y → IsBefore y x → ⊥

abbrev pub says_two_drivers : Circuit → Bit → ℕ → ℕ → DesignFault
says_two_drivers c bit first second = record { kind = kind.TwoDrivers; place = []; bits = named c bit ∷ []; drives = first ∷ second ∷ [] }

pub record SaysTwoDrivers (c : Circuit) (fault : DesignFault) : Type 0 where
  pub bit : Bit
  pub first : ℕ
  pub second : ℕ
  pub shared : IsFirstShared c bit first second
  pub is : fault ≡ says_two_drivers c bit first second

-- ---- a loop

-- the least bit that depends on a cycle
pub record IsFirstStuck (c : Circuit) (x : Bit) : Type 0 where
  pub stuck : IsStuck c x
  pub least : (y : Bit) → IsStuck c y → IsBefore y x → ⊥

-- of the bits that a bit depends on and that depend on a cycle, the least one
pub record IsNext (c : Circuit) (x y : Bit) : Type 0 where
  pub depends : DependsOn c x y
  pub stuck : IsStuck c y
  pub least : (z : Bit) → DependsOn c x z → IsStuck c z → IsBefore z y → ⊥

-- a walk from the first bit that depends on a cycle, each time to the next one, up to the first that would come twice,
-- which stands at `again`
pub record IsWalk (c : Circuit) (walk : List Bit) (again : ℕ) : Type 0 where
  pub start : (x : Bit) → slice_get walk 0 ≡ Some x → IsFirstStuck c x
  pub turn : (k : ℕ) (x y : Bit) → slice_get walk k ≡ Some x → slice_get walk (suc k) ≡ Some y → IsNext c x y
  pub once : (i j : ℕ) (x : Bit) → slice_get walk i ≡ Some x → slice_get walk j ≡ Some x → i ≡ j
  pub inside : again < length walk
  pub closed : (k : ℕ) (x y : Bit) → suc k ≡ length walk → slice_get walk k ≡ Some x → slice_get walk again ≡ Some y → IsNext c x y

abbrev pub says_loop : Circuit → List Bit → DesignFault
says_loop c cycle = record { kind = kind.CombLoop; place = []; bits = map (named c) cycle; drives = [] }

-- the bits of the cycle: the walk from the bit that would come twice
pub record SaysLoop (c : Circuit) (fault : DesignFault) : Type 0 where
  pub walk : List Bit
  pub again : ℕ
  pub walked : IsWalk c walk again
  pub is : fault ≡ says_loop c (drop again walk)

-- why a circuit has no order: two drives share a bit, or none do and a bit depends on itself
abbrev pub SaysFault : Circuit → DesignFault → Type 0
SaysFault c fault = SaysTwoDrivers c fault ⊎ (IsDrivenOnce c × SaysLoop c fault)
