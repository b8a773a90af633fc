-- For each bit the first drive that covers it.
use Rattle.std.specs.Prelude.{◌≡◌, ℕ, ◌<◌, ◌⊎◌, List, length, slice_index}
use Rattle.circuit.specs.declared.netlist.Circuit.{Circuit}
use Rattle.driver_check.specs.Depends.{Bit}
use Rattle.driver_check.specs.Faults.{Covers}
use Rattle.driver_check.specs.Numbers.{IsBit, bit_number}

-- the place of the first of the first i drives that covers a bit, or else of none
abbrev pub IsOwner : Circuit → ℕ → Bit → ℕ → Type 0
IsOwner c i x place = ((place < i) × Covers c place x × ((k : ℕ) → k < place → Covers c k x → ⊥)) ⊎ ((place ≡ length c.drives) × ((k : ℕ) → k < i → Covers c k x → ⊥))

abbrev pub AreOwners : Circuit → ℕ → List ℕ → Type 0
AreOwners c i owners = (x : Bit) → IsBit c.nets x → IsOwner c i x (slice_index owners (bit_number c.nets x))
