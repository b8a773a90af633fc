use Rattle.std.proofs.Common.{◌≡◌, ◌-◌, ◌/◌, ◌^◌}
use Rattle.circuit.specs.Signal.{sig_number}
use Rattle.signal_words.specs.Values.{digits_in}
use Rattle.sim_base.proofs.Filling.{IsFilling}
use Rattle.state_cells.proofs.register.put_words.Given as goal

abbrev pub invariant-loop-at : goal.invariant-loop-at
invariant-loop-at l = record {
  left : l.reader.number ≡ sig_number (digits_in l.nets) l.sig / 2 ^ l.at;
  filling : IsFilling l.fn.into l.into l.out (sig_number (digits_in l.nets) l.sig) l.width l.at l.changed;
}

abbrev pub decreases-loop-at : goal.decreases-loop-at
decreases-loop-at l = l.width - l.at
