-- Numbers below a width, of which each is marked or not: bit i of the set's number says whether i is marked.
use Rattle.std.specs.Prelude.{◌≡◌, ℕ, ◌<◌, ◌≤◌}
use Rattle.std.specs.Int.{bit_at}
use Rattle.sim_base.specs.BitValue.{BitValue, digit_after_set}

abbrev pub IsMarked : BitValue → ℕ → Type 0
IsMarked set i = bit_at set.number i ≡ 1

-- i is marked, and each other number is as it was
pub record IsWithMark (i : ℕ) (before after : BitValue) : Type 0 where
  pub width : after.width ≡ before.width
  pub marks : (j : ℕ) → bit_at after.number j ≡ digit_after_set i 1 before.number j

-- i was the least marked number; it is marked no more, and each other number is as it was
pub record IsLeastTaken (i : ℕ) (before after : BitValue) : Type 0 where
  pub within : i < before.width
  pub marked : IsMarked before i
  pub least : (j : ℕ) → IsMarked before j → i ≤ j
  pub width : after.width ≡ before.width
  pub marks : (j : ℕ) → bit_at after.number j ≡ digit_after_set i 0 before.number j
