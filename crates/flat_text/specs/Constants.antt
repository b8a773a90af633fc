-- What one word stands for: a number, binary digits, a quoted text, an identifier.
use Rattle.std.specs.Prelude.{ℕ, ◌+◌, ◌-◌, ◌*◌, ◌==◌, List, [], ◌∷◌, length, take, drop, Bool, not, ◌&&◌, ◌||◌, nat_le, Option, Some, None, option_map, option_and_then, position, slice_index, slice_range, if◌then◌else◌}
use Rattle.std.specs.List.{list_all}
use Rattle.sim_base.specs.BitValue.{BitValue, bit_value}
use Rattle.sim_base.specs.Digits.{digits_number}
use Rattle.flat_text.specs.declared.module.Constant.{Constant}
use Rattle.flat_text.specs.declared.module.Constant.TheVariants.{Number, Digits, Text}
use Rattle.flat_text.specs.declared.module.Operand.{Operand}
use Rattle.flat_text.specs.declared.module.Operand.TheVariants as operand

-- 1 to 9 decimal digits
abbrev pub number_of : List ℕ → Option ℕ
number_of word = digits_number 9 word

-- the number whose binary digits are those of `front` and then these, where they are the characters 0 and 1
unfoldable pub binary_after : ℕ → List ℕ → Option ℕ
binary_after front [] = Some front
binary_after front (c ∷ cs) = if c == 48 then binary_after (front * 2) cs else (if c == 49 then binary_after (front * 2 + 1) cs else None)

-- the greatest width that digits may have
abbrev pub widest : ℕ
widest = 67108864

-- a value of so many bits, written in so many binary digits, the most significant first
unfoldable pub bits_of_digits : ℕ → List ℕ → Option BitValue
bits_of_digits width digits = if nat_le width widest && length digits == width then option_map (bit_value width) (binary_after 0 digits) else None

-- a width, a quote (39) and digits
unfoldable pub bits_of : List ℕ → Option BitValue
bits_of word = option_and_then (λ quote. option_and_then (λ width. bits_of_digits width (drop (quote + 1) word)) (number_of (take quote word))) (position (λ c. c == 39) word)

-- neither a double quote nor a backslash
abbrev pub is_plain : ℕ → Bool
is_plain c = not (c == 34) && not (c == 92)

-- a word that begins and ends with a double quote (34)
abbrev pub is_quoted : List ℕ → Bool
is_quoted word = nat_le 2 (length word) && slice_index word 0 == 34 && slice_index word (length word - 1) == 34

-- a word without its first and its last byte
abbrev pub inside : List ℕ → List ℕ
inside word = slice_range word 1 (length word - 1)

-- what stands between double quotes
unfoldable pub text_of : List ℕ → Option (List ℕ)
text_of word = if is_quoted word && list_all is_plain (inside word) then Some (inside word) else None

-- the first of two that is there
abbrev pub or_else : {A : Type 0} → Option A → Option A → Option A
or_else (Some x) other = Some x
or_else None other = other

-- a number, digits or a text; no word is two of these
unfoldable pub constant_of : List ℕ → Option Constant
constant_of word = or_else (option_map Number (number_of word)) (or_else (option_map Digits (bits_of word)) (option_map Text (text_of word)))

-- a backslash (92) or a dollar sign (36), and at least one byte more
abbrev pub is_identifier : List ℕ → Bool
is_identifier word = nat_le 2 (length word) && (slice_index word 0 == 92 || slice_index word 0 == 36)

abbrev pub identifier_of : List ℕ → Option (List ℕ)
identifier_of word = if is_identifier word then Some word else None

-- what a port of a cell is joined to
unfoldable pub operand_of : List ℕ → Option Operand
operand_of word = or_else (option_map operand.Wire (identifier_of word)) (option_map operand.Digits (bits_of word))
