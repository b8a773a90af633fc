-- A number in parts of one width, the least first.
use Rattle.std.specs.Prelude.{ℕ, zero, suc, ◌+◌, ◌*◌, ◌/◌, ◌%◌, ◌^◌, List, [], ◌∷◌}
use Rattle.sim_base.specs.BitValue.{BitValue}
use Rattle.sim_base.specs.Shape.{words_of_width}

-- the lowest parts of a number, so many of them
unfoldable pub parts : ℕ → ℕ → ℕ → List ℕ
parts width zero n = []
parts width (suc count) n = n % 2 ^ width ∷ parts width count (n / 2 ^ width)

-- the number that parts of this width make
unfoldable pub number_of_parts : ℕ → List ℕ → ℕ
number_of_parts width [] = 0
number_of_parts width (p ∷ ps) = number_of_parts width ps * 2 ^ width + p

-- a value in words of 32 bits, as many as its width takes
abbrev pub halves_of : BitValue → List ℕ
halves_of v = parts 32 (words_of_width v.width) v.number
