-- Which bits slices choose.
use Rattle.std.specs.Prelude.{ℕ, ◌+◌, ◌-◌, List, [], ◌∷◌, Bool, ◌&&◌, nat_le, nat_lt, Option, Some, None, if◌then◌else◌}
use Rattle.rtlil_tree.specs.declared.sig.Slice.{Slice}
use Rattle.rtlil_signals.specs.declared.slice.Range.{Range}

-- a slice that names its ends the right way round lies inside so many bits
abbrev pub is_inside : ℕ → Slice → Bool
is_inside width s = nat_le s.low s.high && nat_lt s.high width

-- the bits that a slice chooses of those that were chosen before
abbrev pub narrowed : Range → Slice → Range
narrowed r s = record { at = r.at + s.low; width = s.high + 1 - s.low }

-- the bits that slices choose, each of those that the one before it chose; none where one is outside
unfoldable pub chosen : Range → List Slice → Option Range
chosen r [] = Some r
chosen r (s ∷ ss) = if is_inside r.width s then chosen (narrowed r s) ss else None
