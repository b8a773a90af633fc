use Rattle.signal_words.specs.Values.{digits_in}
use Rattle.eval_commit.proofs.RegsAfter.{RegsMore}
use Rattle.eval_commit.proofs.registers.next_regs.Given as goal

abbrev pub invariant-loop-n : goal.invariant-loop-n
invariant-loop-n l = RegsMore (digits_in l.before.nets) (digits_in l.now.nets) l.circuit.regs l.fn.regs l.regs l.n l.changed
