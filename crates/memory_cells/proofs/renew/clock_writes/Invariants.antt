use Rattle.std.proofs.Common.{◌≡◌}
use Rattle.sim_base.specs.Parts.{parts}
use Rattle.signal_words.specs.Values.{digits_in}
use Rattle.memory_cells.proofs.Renewed.{RowsAfter}
use Rattle.memory_cells.proofs.renew.clock_writes.Given as goal

abbrev pub invariant-loop-port : goal.invariant-loop-port
invariant-loop-port l = record {
  row : l.row.width ≡ l.mem.width;
  width : l.rows.width ≡ l.fn.rows.width;
  done : RowsAfter (digits_in l.before) (digits_in l.now) l.mem l.port-index (parts l.mem.width l.mem.size l.fn.rows.number) (parts l.mem.width l.mem.size l.rows.number) l.changed;
}
