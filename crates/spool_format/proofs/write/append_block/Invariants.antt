use Rattle.spool_format.proofs.Upto.{IsWritten}
use Rattle.spool_format.proofs.write.append_block.Given as goal

abbrev pub invariant-loop-slot : goal.invariant-loop-slot
invariant-loop-slot l = IsWritten l.widths l.old l.new l.from l.slot l.place l.count l.initial.into.items l.into.items
