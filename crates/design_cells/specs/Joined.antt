-- A cell of the library as it is written in an instance: the numbers of its parameters and the signals at its ports.
use Rattle.std.specs.Prelude.{ℕ, ◌-◌, ◌^◌, List, [], ◌∷◌, map, min, Bool, Option, Some, None, bytes_eq, find, option_map}
use Rattle.circuit.specs.Signal.{sig_width}
use Rattle.circuit.specs.declared.netlist.Piece.{Piece}
use Rattle.cell_library.specs.declared.written.Connection.{Connection}
use Rattle.cell_library.specs.declared.written.Setting.{Setting}
use Rattle.rtlil_tree.specs.declared.module.Cell.{Cell as Written}
use Rattle.rtlil_tree.specs.declared.module.Connection.{Connection as WrittenPort}
use Rattle.rtlil_tree.specs.declared.module.Setting.{Setting as WrittenSetting}
use Rattle.rtlil_signals.specs.Signals.{Scope, is_named, sig_pieces}
use Rattle.rtlil_signals.specs.Spans.{pieces_of}
use Rattle.rtlil_signals.specs.Values.{const_value}
use Rattle.design_wires.specs.Connects.{or_none}
use Rattle.design_cells.specs.declared.ports.JoinedPort.{JoinedPort}

-- a parameter as a number of 64 bits, the greatest one where it is above that
abbrev pub setting_of : WrittenSetting → Setting
setting_of s = record { name = s.name; value = min (const_value s.value).number (2 ^ 64 - 1) }

abbrev pub settings_of : List WrittenSetting → List Setting
settings_of ss = map setting_of ss

-- a port that is joined to a signal: whether each of its wires is there, and its pieces, or none where a slice is outside
pub record Joined : Type 0 where
  pub port : List ℕ
  pub is_named : Bool
  pub pieces : Option (List Piece)

abbrev pub joined_of : Scope → WrittenPort → Joined
joined_of scope c = record { port = c.port; is_named = is_named scope c.sig; pieces = sig_pieces scope c.sig }

abbrev pub joined_in : Scope → List WrittenPort → List Joined
joined_in scope cs = map (joined_of scope) cs

-- a port by its name and its width, which is a number of 64 bits, the greatest one where it is above that
abbrev pub connection_of : Joined → Connection
connection_of j = record { port = j.port; width = min (sig_width (or_none j.pieces)) (2 ^ 64 - 1) }

abbrev pub connections_of : List Joined → List Connection
connections_of js = map connection_of js

-- the pieces at a port, or none where it is not joined
abbrev pub pieces_in : Option Joined → List Piece
pieces_in None = []
pieces_in (Some j) = or_none j.pieces

abbrev pub joined_at : List Joined → List ℕ → Option Joined
joined_at js name = find (λ j. bytes_eq j.port name) js

-- how the code sees a port
abbrev pub seen_port : JoinedPort → Joined
seen_port p = record { port = p.port; is_named = p.is_named; pieces = option_map pieces_of p.spans }

abbrev pub seen_ports : List JoinedPort → List Joined
seen_ports ps = map seen_port ps
