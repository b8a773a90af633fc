use Rattle.std.proofs.Common.{◌≡◌, ◌+◌, ◌*◌, length, Some}
use Rattle.std.specs.Prelude.{replicate, slice_get}
use Rattle.sim_base.specs.Shape.{words_of_width}
use Rattle.circuit.specs.Rounds.{Standing}
use Rattle.circuit.specs.Shown.{stored_row}
use Rattle.spool_format.specs.Reading.{written_at}
use Rattle.run_core.specs.Words.{words_of_slots}
use Rattle.run_core.proofs.words.put_rows.Given as goal

abbrev pub invariant-loop-row : goal.invariant-loop-row
invariant-loop-row l = record {
  width : l.room.width ≡ l.fn.room.width;
  long : length l.words ≡ length l.fn.words;
  at : l.at ≡ l.place + l.row * words_of_width l.fn.room.width;
  words : (s : Standing) → l.machine.standing ≡ Some s
      → l.words ≡ written_at l.fn.words l.place (words_of_slots (replicate l.row l.fn.room.width) (λ row. stored_row (slice_get s.state.mems l.mem) row));
}
