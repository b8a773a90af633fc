use Rattle.std.proofs.Common.{◌≡◌, ◌+◌, take}
use Rattle.signal_words.specs.Values.{digits_in}
use Rattle.memory_cells.proofs.RowAfter.{row_after}
use Rattle.memory_cells.proofs.write.write_marked.Given as goal

abbrev pub invariant-loop-i : goal.invariant-loop-i
invariant-loop-i l = record {
  width : l.row.width ≡ l.mem.width;
  number : l.row.number ≡ row_after (digits_in l.before) (digits_in l.now) l.mem.width (l.place + l.mem.offset) (take l.i l.marks) (take l.i l.mem.writes) l.fn.row.number;
}
