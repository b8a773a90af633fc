-- Cells that read something else in one valuation than in another.
use Rattle.std.specs.Prelude.{ℕ, List, Bool, not, ◌&&◌, ◌==◌, sum_by}
use Rattle.sim_base.specs.BitValue.{BitValue, digit_of}
use Rattle.circuit.specs.Rounds.{Round}
use Rattle.circuit.specs.Signal.{Digits, digits_of_nets, sig_number}
use Rattle.circuit.specs.declared.cell.Cell.{Cell}
use Rattle.circuit.specs.declared.netlist.Piece.{Piece}
use Rattle.signal_words.specs.Values.{IsSignalOf}

-- a signal has the same number in both
abbrev pub is_same : Digits → Digits → List Piece → Bool
is_same before now sig = sig_number before sig == sig_number now sig

-- one of a cell's input signals has another number
abbrev pub has_changed : Digits → Digits → Cell → Bool
has_changed before now c = not (is_same before now c.a && (is_same before now c.b && is_same before now c.s))

-- how many cells have changed between the valuations of a round and of the one before
abbrev pub changed_cells : List Cell → Round → ℕ
changed_cells cells r = sum_by (λ c. digit_of (has_changed (digits_of_nets r.before) (digits_of_nets r.now) c)) cells

-- the same over rounds
abbrev pub changes_in : List Cell → List Round → ℕ
changes_in cells rounds = sum_by (changed_cells cells) rounds

-- a cell's input signals lie inside the values of nets
pub record IsReadIn (nets : List BitValue) (c : Cell) : Type 0 where
  pub a : IsSignalOf nets c.a
  pub b : IsSignalOf nets c.b
  pub s : IsSignalOf nets c.s
