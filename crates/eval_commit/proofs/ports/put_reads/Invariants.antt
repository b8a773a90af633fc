use Rattle.std.proofs.Common.{◌≡◌}
use Rattle.eval_commit.proofs.PortsOver.{over}
use Rattle.eval_commit.proofs.ports.put_reads.Given as goal

abbrev pub invariant-loop-m : goal.invariant-loop-m
invariant-loop-m l = record {
  nets : l.store.nets ≡ l.fn.store.nets;
  regs : l.store.regs ≡ l.fn.store.regs;
  cells : l.store.cells ≡ l.fn.store.cells;
  reads : l.store.reads ≡ over l.ports l.fn.store.reads l.m;
}
