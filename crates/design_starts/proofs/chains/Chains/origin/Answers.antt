use Rattle.std.proofs.Common.{◌≡◌, ◌⊎◌, ℕ, List, subst, Some}
use Rattle.std.specs.Prelude.{slice_get}
use Rattle.driver_check.specs.Depends.{Bit}
use Rattle.design_starts.specs.Chains.{IsPassed}
use Rattle.design_starts.proofs.Walks.{table_kept}
use Rattle.design_starts.proofs.chains.Chains.origin.Goals as goal

pub returns-clause-table : goal.returns-clause-table
returns-clause-table c =
    let from : Bit = (c.args.net, c.args.bit) in
    let was = c.walk.new.self.table.items in
    let now = c.put.new.table.items in
    let end = c.in_ok-end.end in
    let passed = subst (λ (path : List ℕ). (place : ℕ) → IsPassed path place → slice_get now place ≡ Some end) c.deref.ensures.value c.put.ensures.passed in
    let others = subst (λ (path : List ℕ). (place : ℕ) → (IsPassed path place × (slice_get now place ≡ Some end)) ⊎ (slice_get now place ≡ slice_get was place)) c.deref.ensures.value c.put.ensures.others in
    table_kept c.args.circuit.now from was now c.walk.new.path.items end c.in_ok-end.ensures.walked passed others
