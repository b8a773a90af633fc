-- The texts of attributes.
use Rattle.std.specs.Prelude.{ℕ, zero, suc, ◌/◌, ◌%◌, ◌^◌, ◌==◌, List, [], ◌∷◌, ◌++◌, Option, Some, None, option_and_then, codes, if◌then◌else◌}
use Rattle.std.specs.Str.{is_utf8}
use Rattle.sim_base.specs.BitValue.{BitValue}
use Rattle.rtlil_tree.specs.Attributes.{attribute_value}
use Rattle.rtlil_tree.specs.declared.module.Attribute.{Attribute}
use Rattle.rtlil_tree.specs.declared.sig.Const.{Const}
use Rattle.rtlil_tree.specs.declared.sig.Const.TheVariants as const
use Rattle.rtlil_signals.specs.Values.{const_value}

-- so many bytes of a number, the most significant first
unfoldable pub bytes_of : ℕ → ℕ → List ℕ
bytes_of zero n = []
bytes_of (suc count) n = bytes_of count (n / 2 ^ 8) ++ n % 2 ^ 8 ∷ []

-- the bytes of a value, if its bits are whole bytes
abbrev pub value_bytes : BitValue → Option (List ℕ)
value_bytes v = if v.width % 8 == 0 then Some (bytes_of (v.width / 8) v.number) else None

abbrev pub const_bytes : Const → Option (List ℕ)
const_bytes (const.String bytes) = Some bytes
const_bytes (const.Digits c) = value_bytes (const_value (const.Digits c))
const_bytes (const.Integer n) = value_bytes (const_value (const.Integer n))

abbrev pub if_text : List ℕ → Option (List ℕ)
if_text bytes = if is_utf8 bytes then Some bytes else None

-- the text of a constant, if its bits are whole bytes of UTF-8
abbrev pub const_text : Const → Option (List ℕ)
const_text c = option_and_then if_text (const_bytes c)

-- the place in a source that an item is said to come from
abbrev pub source_text : List Attribute → Option (List ℕ)
source_text attributes = option_and_then const_text (attribute_value (codes "\\src") attributes)
