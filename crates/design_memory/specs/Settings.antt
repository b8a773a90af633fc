-- What a memory is given: numbers, bits and the name of its item.
use Rattle.std.specs.Prelude.{ℕ, ◌-◌, ◌^◌, ◌==◌, List, [], ◌∷◌, drop, length, min, Bool, true, false, not, ◌&&◌, ◌||◌, nat_lt, Option, Some, None, option_and_then, bytes_eq, find, if◌then◌else◌}
use Rattle.std.specs.Int.{bit_at}
use Rattle.std.specs.List.{list_all}
use Rattle.sim_base.specs.BitValue.{BitValue, zeros}
use Rattle.rtlil_tree.specs.declared.module.Setting.{Setting}
use Rattle.rtlil_signals.specs.Values.{const_value}
use Rattle.design_wires.specs.Texts.{const_text}
use Rattle.design_wires.specs.Wires.{is_public}
use Rattle.design_memory.specs.Names.{parameter_name}
use Rattle.design_memory.specs.declared.names.Parameter.{Parameter}
use Rattle.design_memory.specs.declared.names.Parameter.TheVariants as parameter
use Rattle.design_memory.specs.declared.settings.Shape.{Shape}
use Rattle.design_memory.specs.declared.settings.Values.{Values}

abbrev pub setting_at : List Setting → Parameter → Option Setting
setting_at ss p = find (λ s. bytes_eq s.name (parameter_name p)) ss

-- the value of a parameter; 0 where it is not given
abbrev pub value_or_zero : Option Setting → BitValue
value_or_zero None = zeros 0
value_or_zero (Some s) = const_value s.value

abbrev pub value_at : List Setting → Parameter → BitValue
value_at ss p = value_or_zero (setting_at ss p)

-- the same as a number of 64 bits, the greatest one where it is above that
abbrev pub number_at : List Setting → Parameter → ℕ
number_at ss p = min (value_at ss p).number (2 ^ 64 - 1)

unfoldable pub shape_of : List Setting → Shape
shape_of ss = record {
  size = number_at ss parameter.Size;
  offset = number_at ss parameter.Offset;
  address_width = number_at ss parameter.AddressWidth;
  width = number_at ss parameter.Width;
  reads = number_at ss parameter.ReadPorts;
  writes = number_at ss parameter.WritePorts;
}

unfoldable pub values_of : List Setting → Values
values_of ss = record {
  init = value_at ss parameter.Init;
  clocked_reads = value_at ss parameter.ReadClockEnable;
  rising_reads = value_at ss parameter.ReadClockPolarity;
  sees = value_at ss parameter.ReadTransparencyMask;
  starts = value_at ss parameter.ReadInitValue;
  clocked_writes = value_at ss parameter.WriteClockEnable;
  rising_writes = value_at ss parameter.WriteClockPolarity;
}

-- a bit of a value is 1; those beyond it are 0
abbrev pub is_set : BitValue → ℕ → Bool
is_set v at = bit_at v.number at == 1

-- ---- the name of the item

-- neither 0 nor white space nor the line's end
abbrev pub is_name_byte : ℕ → Bool
is_name_byte c = not (c == 0 || (c == 9 || (c == 10 || (c == 13 || c == 32))))

-- an identifier that begins with `\`
abbrev pub is_shown_identifier : List ℕ → Bool
is_shown_identifier name = is_public name && (nat_lt 1 (length name) && list_all is_name_byte name)

abbrev pub if_identifier : List ℕ → Option (List ℕ)
if_identifier name = if is_shown_identifier name then Some name else None

abbrev pub identifier_in : Option Setting → Option (List ℕ)
identifier_in None = None
identifier_in (Some s) = option_and_then if_identifier (const_text s.value)

-- the identifier of the item that a memory has, if it has one
abbrev pub item_identifier : List Setting → Option (List ℕ)
item_identifier ss = identifier_in (setting_at ss parameter.MemId)
