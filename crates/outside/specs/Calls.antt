-- Numbers of calls.
use Rattle.std.specs.Prelude.{ℕ, ◌+◌, ◌-◌, ◌^◌, min, List, Bool, ◌==◌}
use Rattle.std.specs.List.{list_any}

-- one more, for a count of 64 bits that stops at its last value
abbrev pub one_more : ℕ → ℕ
one_more count = min (count + 1) (2 ^ 64 - 1)

abbrev pub is_listed : List ℕ → ℕ → Bool
is_listed numbers call = list_any (λ number. number == call) numbers
