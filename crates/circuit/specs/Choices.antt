-- Which of several bits and ports is taken.
use Rattle.std.specs.Prelude.{◌≡◌, ℕ, ◌<◌, List, Bool, true, false, Some, slice_get}
use Rattle.circuit.specs.Signal.{Digits}
use Rattle.circuit.specs.Next.{is_active_at, writes_at}
use Rattle.circuit.specs.declared.netlist.Piece.{Piece}
use Rattle.circuit.specs.declared.memory.WritePort.{WritePort}

-- bit i of a trigger has its edge
abbrev pub HasEdgeAt : Digits → Digits → List Piece → List Bool → ℕ → Type 0
HasEdgeAt before now on rising i = (r : Bool) × (slice_get rising i ≡ Some r) × (is_active_at r before on i ≡ false) × (is_active_at r now on i ≡ true)

-- port n is marked
abbrev pub IsMarked : List Bool → ℕ → Type 0
IsMarked marks n = slice_get marks n ≡ Some true

-- port n is marked and writes bit i of an address, and no marked port above it does
pub record IsHighestWrite (before now : Digits) (address i : ℕ) (marks : List Bool) (ports : List WritePort) (n : ℕ) (p : WritePort) : Type 0 where
  pub at : slice_get ports n ≡ Some p
  pub marked : IsMarked marks n
  pub writes : writes_at before now address i p ≡ true
  pub above : (k : ℕ) (q : WritePort) → n < k → slice_get ports k ≡ Some q → IsMarked marks k → writes_at before now address i q ≡ false
