-- Numbers that a test has compared, and numbers that were written.
use Rattle.std.proofs.Common.{◌≡◌, ℕ, ◌≤◌, List, arith, subst, Bool, true}
use Rattle.std.specs.Prelude.{nat_le, ◌==◌}
use Rattle.std.proofs.lemmas.Bool.Decides.{nat_tests}
use Rattle.sim_base.specs.BitValue.{BitValue}
use Rattle.sim_base.specs.Values.{IsPut}

pub le_from : (m n : ℕ) → nat_le m n ≡ true → m ≤ n
le_from m n e = grind (arith, nat_tests)

pub eq_from : (m n : ℕ) → (m == n) ≡ true → m ≡ n
eq_from m n e = grind (arith, nat_tests)

pub same_put : (at m n : ℕ) (old new : List BitValue) (changed : Bool) → m ≡ n → IsPut at m old new changed → IsPut at n old new changed
same_put at m n old new changed e h = subst (λ k. IsPut at k old new changed) e h
