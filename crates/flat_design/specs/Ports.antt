-- What the ports of a cell are joined to, and the numbers of its parameters.
use Rattle.std.specs.Prelude.{ℕ, List, Bool, false, ◌==◌, Option, Some, None, option_and_then, find, position, slice_get, if◌then◌else◌}
use Rattle.sim_base.specs.BitValue.{BitValue}
use Rattle.flat_text.specs.declared.module.Wire.{Wire}
use Rattle.flat_text.specs.declared.module.Cell.{Cell}
use Rattle.flat_text.specs.declared.module.Connection.{Connection}
use Rattle.flat_text.specs.declared.module.Parameter.{Parameter}
use Rattle.flat_text.specs.declared.module.Operand.{Operand}
use Rattle.flat_text.specs.declared.module.Operand.TheVariants as operand
use Rattle.flat_text.specs.declared.module.Constant.{Constant}
use Rattle.flat_text.specs.declared.module.Constant.TheVariants as constant
use Rattle.circuit.specs.declared.netlist.Piece.{Piece}
use Rattle.circuit.specs.declared.netlist.Piece.TheVariants as piece
use Rattle.circuit.specs.Signal.{piece_width}
use Rattle.flat_design.specs.Names.{same_name}
use Rattle.flat_design.specs.Wires.{is_word_width}

-- the place of the wire of this name
abbrev pub place_of : List Wire → List ℕ → Option ℕ
place_of wires name = position (λ w. same_name w.name name) wires

abbrev pub whole_net : ℕ → Option Wire → Option Piece
whole_net net None = None
whole_net net (Some w) = Some (piece.Part net 0 w.width)

-- a whole wire that stands there
unfoldable pub wire_piece : List Wire → List ℕ → Option Piece
wire_piece wires name = option_and_then (λ net. whole_net net (slice_get wires net)) (place_of wires name)

-- digits of 1 to 64 bits
abbrev pub digits_piece : BitValue → Option Piece
digits_piece v = if is_word_width v.width then Some (piece.Const v) else None

abbrev pub piece_of : List Wire → Operand → Option Piece
piece_of wires (operand.Wire name) = wire_piece wires name
piece_of wires (operand.Digits v) = digits_piece v

-- what the port is joined to
unfoldable pub joined : List Wire → List Connection → List ℕ → Option Piece
joined wires connections port = option_and_then (λ c. piece_of wires c.to) (find (λ c. same_name c.port port) connections)

-- a parameter's value as an unsigned number
abbrev pub is_number : ℕ → Constant → Bool
is_number n (constant.Number m) = m == n
is_number n (constant.Digits v) = v.number == n
is_number n (constant.Text t) = false

abbrev pub is_parameter : ℕ → Option Parameter → Bool
is_parameter n None = false
is_parameter n (Some p) = is_number n p.value

-- the parameter stands there and is this number
unfoldable pub has_parameter : List Parameter → List ℕ → ℕ → Bool
has_parameter parameters name n = is_parameter n (find (λ p. same_name p.name name) parameters)

abbrev pub sized : List Parameter → List ℕ → Piece → Option Piece
sized parameters name p = if has_parameter parameters name (piece_width p) then Some p else None

-- what the port is joined to, where the parameter is its width
unfoldable pub joined_with_width : List Wire → Cell → List ℕ → List ℕ → Option Piece
joined_with_width wires x port parameter = option_and_then (sized x.parameters parameter) (joined wires x.connections port)
