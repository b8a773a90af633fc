-- The numbers that a cell gives the parameters of its type, and the widths that they make.
use Rattle.std.specs.Prelude.{ℕ, ◌+◌, ◌*◌, ◌^◌, List, Bool, true, false, Option, Some, None, find, option_map, bytes_eq, nat_lt, if◌then◌else◌}
use Rattle.cell_library.specs.declared.line.Parameter.{Parameter}
use Rattle.cell_library.specs.declared.line.Parameter.TheVariants as parameter
use Rattle.cell_library.specs.declared.line.Range.{Range}
use Rattle.cell_library.specs.declared.line.Range.TheVariants as range
use Rattle.cell_library.specs.declared.line.Span.{Span}
use Rattle.cell_library.specs.declared.line.Span.TheVariants.{One, Of, Sum, Product, Scaled}
use Rattle.cell_library.specs.declared.written.Setting.{Setting}
use Rattle.cell_library.specs.Names.{parameter_name, range_of}

-- the number that a parameter is given
abbrev pub given : List Setting → Parameter → Option ℕ
given settings p = option_map (λ s. s.value) (find (λ s. bytes_eq s.name (parameter_name p)) settings)

abbrev pub or_zero : Option ℕ → ℕ
or_zero None = 0
or_zero (Some n) = n

abbrev pub number : List Setting → Parameter → ℕ
number settings p = or_zero (given settings p)

abbrev pub lies_in : Range → ℕ → Bool
lies_in range.Size n = nat_lt n (2 ^ 31)
lies_in range.Flag n = true
lies_in range.Any n = true

-- whether an operand is signed, which it is not where nothing is given
abbrev pub is_sign : Parameter → Bool
is_sign parameter.ASigned = true
is_sign parameter.BSigned = true
is_sign _ = false

-- a parameter is given a number that it may have; a sign need not be given
abbrev pub in_range : Parameter → Option ℕ → Bool
in_range p None = is_sign p
in_range p (Some n) = lies_in (range_of p) n

abbrev pub span_width : List Setting → Span → ℕ
span_width settings One = 1
span_width settings (Of p) = number settings p
span_width settings (Sum p q) = number settings p + number settings q
span_width settings (Product p q) = number settings p * number settings q
span_width settings (Scaled p q) = number settings p * 2 ^ number settings q

-- a number, where 64 bits hold it
abbrev pub exact : ℕ → Option ℕ
exact n = if nat_lt n (2 ^ 64) then Some n else None
