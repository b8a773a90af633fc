use Rattle.std.proofs.Common.{◌≡◌, ◌+◌, take}
use Rattle.circuit.specs.Next.{all_marked}
use Rattle.signal_words.specs.Values.{digits_in}
use Rattle.memory_cells.proofs.RowAfter.{row_after}
use Rattle.memory_cells.proofs.write.write_all.Given as goal

abbrev pub invariant-loop-port : goal.invariant-loop-port
invariant-loop-port l = record {
  width : l.row.width ≡ l.mem.width;
  number : l.row.number ≡ row_after (digits_in l.before) (digits_in l.now) l.mem.width (l.place + l.mem.offset) (take l.port-index (all_marked l.mem.writes)) (take l.port-index l.mem.writes) l.fn.row.number;
}
