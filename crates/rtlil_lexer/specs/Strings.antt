-- What a string stands for.
use Rattle.std.specs.Prelude.{ℕ, zero, suc, ◌+◌, ◌-◌, ◌*◌, ◌==◌, max, Bool, false, not, ◌&&◌, List, [], ◌∷◌, length, take, slice_index, nat_le, nat_lt, Option, Some, None, if◌then◌else◌}
use Rattle.std.specs.List.{take_while, list_all}
use Rattle.std.specs.Option.{option_map}
use Rattle.rtlil_lexer.specs.Characters.{is_octal_digit}

abbrev pub is_byte : ℕ → Bool
is_byte c = nat_le c 255

-- the octal digits at the front, three at most
abbrev pub octal_digits : List ℕ → List ℕ
octal_digits bs = take_while is_octal_digit (take 3 bs)

-- the number of `front` with these octal digits behind it
unfoldable pub octal_behind : ℕ → List ℕ → ℕ
octal_behind front [] = front
octal_behind front (d ∷ ds) = octal_behind (front * 8 + (d - 48)) ds

-- what a byte behind a backslash stands for: n for a line feed, t for a tab, and each other one for itself
abbrev pub named_escape : ℕ → ℕ
named_escape b = if b == 110 then 10 else (if b == 116 then 9 else b)

-- what stands behind a backslash: its number, which may be above 255, and how many bytes it takes
unfoldable pub escape_value : List ℕ → ℕ
escape_value bs = if nat_lt 0 (length (octal_digits bs)) then octal_behind 0 (octal_digits bs) else named_escape (slice_index bs 0)

unfoldable pub escape_length : List ℕ → ℕ
escape_length bs = max 1 (length (octal_digits bs))

-- the bytes that stand for themselves or follow a backslash (92), behind so many that were counted already
unfoldable pub unescaped_behind : ℕ → List ℕ → List ℕ
unescaped_behind counted [] = []
unescaped_behind (suc counted) (b ∷ bs) = unescaped_behind counted bs
unescaped_behind zero (b ∷ bs) = if b == 92 then escape_value bs ∷ unescaped_behind (escape_length bs) bs else b ∷ unescaped_behind 0 bs

-- what the bytes between two quotes stand for; a number above 255 is no byte
abbrev pub unescaped : List ℕ → List ℕ
unescaped body = unescaped_behind 0 body

-- how many bytes stand before the quote (34) that closes a string on its line; a byte behind a backslash closes nothing
unfoldable pub body_length : Bool → List ℕ → Option ℕ
body_length escaped [] = None
body_length escaped (b ∷ bs) =
    if b == 10 then None else (
    if b == 34 && not escaped then Some 0 else
    option_map suc (body_length (b == 92 && not escaped) bs))

-- what stands between a string's quotes, from behind the first one on
abbrev pub body_of : List ℕ → Option (List ℕ)
body_of rest = option_map (λ size. take size rest) (body_length false rest)

-- what a string stands for, where each of its escapes is a byte
abbrev pub quoted_of : List ℕ → Option (List ℕ)
quoted_of body = if list_all is_byte (unescaped body) then Some (unescaped body) else None
