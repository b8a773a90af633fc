-- Where the next value of a register comes from.
use Rattle.std.specs.Prelude.{ℕ, Bool, true, false, if◌then◌else◌}
use Rattle.circuit.specs.Next.{RegisterInputs, bit_by_bit}
use Rattle.circuit.specs.Valid.{Ports}
use Rattle.state_cells.specs.declared.source.Source.{Source}
use Rattle.state_cells.specs.declared.source.Source.TheVariants as source

-- the number that is taken, where the register has its own
abbrev pub sourced_number : Source → RegisterInputs → ℕ → ℕ
sourced_number source.Own a own = own
sourced_number source.Input a own = a.input
sourced_number source.Load a own = a.load
sourced_number source.Value a own = a.value

-- where a register has ports that set and clear a bit, these come first
abbrev pub under_bits : Bool → ℕ → RegisterInputs → ℕ → ℕ
under_bits bits width a rest = if bits then bit_by_bit width a rest else rest

-- a kind with these ports has the one that the source names
abbrev pub has_source : Ports → Source → Bool
has_source p source.Own = true
has_source p source.Input = p.d
has_source p source.Load = p.load
has_source p source.Value = p.reset

abbrev pub is_input : Source → Bool
is_input source.Own = false
is_input source.Input = true
is_input source.Load = false
is_input source.Value = false
