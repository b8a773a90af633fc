use Rattle.signal_words.specs.Values.{digits_in}
use Rattle.eval_commit.specs.KeptState.{stored_all}
use Rattle.eval_commit.proofs.PortsKept.{AreClocked}
use Rattle.eval_commit.proofs.ports.next_mems.Given as goal

abbrev pub invariant-loop-i : goal.invariant-loop-i
invariant-loop-i l = AreClocked l.circuit (digits_in l.before.nets) (digits_in l.now.nets) (stored_all l.fn.rows l.fn.ports) l.fn.ports l.rows l.ports l.i l.changed
