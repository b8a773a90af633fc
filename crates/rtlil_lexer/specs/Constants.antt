-- What a constant stands for.
use Rattle.std.specs.Prelude.{ℕ, ◌+◌, ◌-◌, ◌^◌, ◌==◌, List, [], ◌∷◌, ◌++◌, length, Bool, ◌||◌, replicate, if◌then◌else◌}
use Rattle.rtlil_lexer.specs.declared.constant.Sought.{Sought}
use Rattle.rtlil_lexer.specs.declared.constant.Sought.TheVariants.{One, Known, Any}

-- the most bits that a constant has
abbrev pub widest : ℕ
widest = 67108864

-- a width in bits and, below 2 to the width, the bits that are 1, those whose digit is 0 or 1, and those whose digit
-- is `-`
pub record ConstantValue : Type 0 where
  pub width : ℕ
  pub value : ℕ
  pub known : ℕ
  pub any : ℕ

-- the digit that stands for each one that was not written: the first digit, or 0 where that is 1, or x where none is
-- written
abbrev pub filler : List ℕ → ℕ
filler [] = 120
filler (d ∷ ds) = if d == 49 then 48 else d

-- as many digits as bits, the most significant first
abbrev pub filled : ℕ → List ℕ → List ℕ
filled width digits = replicate (width - length digits) (filler digits) ++ digits

-- the number whose binary digits are 1 where these pass the test
unfoldable pub number_where : (ℕ → Bool) → List ℕ → ℕ
number_where test [] = 0
number_where test (d ∷ ds) = (if test d then 2 ^ length ds else 0) + number_where test ds

abbrev pub constant_value : ℕ → List ℕ → ConstantValue
constant_value width digits = record {
  width = width;
  value = number_where (λ d. d == 49) (filled width digits);
  known = number_where (λ d. d == 48 || d == 49) (filled width digits);
  any = number_where (λ d. d == 45) (filled width digits);
}

-- the digits that make a bit of the value, of the known bits or of the any bits 1
abbrev pub passes : Sought → ℕ → Bool
passes One d = d == 49
passes Known d = d == 48 || d == 49
passes Any d = d == 45
