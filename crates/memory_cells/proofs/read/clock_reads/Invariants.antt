use Rattle.std.proofs.Common.{◌≡◌}
use Rattle.sim_base.specs.Parts.{parts}
use Rattle.signal_words.specs.Values.{digits_in}
use Rattle.memory_cells.proofs.ReadAfter.{OutsMore}
use Rattle.memory_cells.proofs.read.clock_reads.Given as goal

abbrev pub invariant-loop-i : goal.invariant-loop-i
invariant-loop-i l = record {
  row : l.row.width ≡ l.mem.width;
  done : OutsMore (digits_in l.before) (digits_in l.now) l.mem (parts l.mem.width l.mem.size l.rows.number) l.mem.reads l.fn.outs l.outs l.i l.changed;
}
