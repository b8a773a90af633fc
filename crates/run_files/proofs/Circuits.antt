-- A circuit in order has no fault of its drives.
use Rattle.std.proofs.Common.{◌≡◌, ℕ, List, [], ◌∷◌, length, refl, ap, arith, inl, inr}
use Rattle.std.specs.Prelude.{slice_get}
use Rattle.circuit.specs.Acyclic.{IsAcyclic, IsDrivenOnce, IsInOrder}
use Rattle.circuit.specs.declared.fault.DesignFault.{DesignFault}
use Rattle.circuit.specs.declared.netlist.Circuit.{Circuit}
use Rattle.driver_check.specs.Depends.{Bit}
use Rattle.driver_check.specs.Faults.{SaysFault, SaysLoop, SaysTwoDrivers}

two_drivers : (c : Circuit) (f : DesignFault) → IsDrivenOnce c → SaysTwoDrivers c f → ⊥
two_drivers c f once says =
    let first = says.shared.first_covers in
    let second = says.shared.second_covers in
    let same : says.first ≡ says.second = once says.first says.second says.bit.0 says.bit.1 first.0 second.0 first.1 second.1 first.2 second.2 in
    omega (arith, same, says.shared.ordered)

a_loop : (c : Circuit) (f : DesignFault) → ((net bit : ℕ) → IsAcyclic c net bit) → SaysLoop c f → ⊥
a_loop c f acyclic says = by says.walk refl
  where
    by : (walk : List Bit) → says.walk ≡ walk → ⊥
    by [] e = let none : length says.walk ≡ 0 = ap (λ (w : List Bit). length w) e in omega (arith, none, says.walked.inside)
    by (x ∷ xs) e = (says.walked.start x (ap (λ (w : List Bit). slice_get w 0) e)).stuck (acyclic x.0 x.1)

-- a circuit in order has no fault of its drives
pub in_order : (c : Circuit) (f : DesignFault) → IsInOrder c → SaysFault c f → ⊥
in_order c f order (inl two) = two_drivers c f order.once two
in_order c f order (inr loop) = a_loop c f order.acyclic loop.1
