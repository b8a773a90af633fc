use Rattle.std.proofs.Common.{◌≡◌, length}
use Rattle.circuit.specs.Signal.{digits_of_nets}
use Rattle.flat_rounds.proofs.Clocked.{AreClocked}
use Rattle.flat_rounds.proofs.clock.clock.Given as goal

abbrev pub invariant-loop-n : goal.invariant-loop-n
invariant-loop-n l = record {
  long : length l.next.items ≡ length l.regs;
  done : AreClocked l.circuit.regs (digits_of_nets l.before) (digits_of_nets l.nets) l.regs l.next.items l.n;
}
