-- The fields of a record that begins at a place among words.
use Rattle.std.specs.Prelude.{◌≡◌, ℕ, ◌+◌, ◌*◌, ◌^◌, ◌==◌, List, length, slice_index, Option, Some, None, Bool, ◌&&◌, nat_le, nat_lt, if◌then◌else◌}
use Rattle.sim_base.specs.TimeText.{time_of}

-- a record may begin here: its first word is 0 or 1, and so many words are there
abbrev pub begins_record : List ℕ → ℕ → ℕ → Bool
begins_record words at n = nat_le (at + n) (length words) && nat_lt (slice_index words at) 2

-- 0 of a whole record, 1 of one of what changed
abbrev pub tag_at : List ℕ → ℕ → Option ℕ
tag_at words at = if begins_record words at 1 then Some (slice_index words at) else None

-- the time, where the three words behind the first stand for one
abbrev pub time_at : List ℕ → ℕ → Option ℕ
time_at words at =
    if begins_record words at 4
    then time_of (slice_index words (at + 1) + slice_index words (at + 2) * 2 ^ 32 + slice_index words (at + 3) * 2 ^ 64)
    else None

-- how many slots a record of what changed lists
abbrev pub changes_at : List ℕ → ℕ → Option ℕ
changes_at words at = if begins_record words at 5 && (slice_index words at == 1) then Some (slice_index words (at + 4)) else None

-- what the fields of the record at a place are read as
pub record IsRead (words : List ℕ) (at t n : ℕ) (count : Option ℕ) : Type 0 where
  pub tag : tag_at words at ≡ Some t
  pub time : time_at words at ≡ Some n
  pub changes : changes_at words at ≡ count
