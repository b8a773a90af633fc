use Rattle.std.proofs.Common.{◌≡◌, ◌/◌, ◌^◌, drop}
use Rattle.circuit.specs.Shown.{some_edge}
use Rattle.circuit.specs.Signal.{sig_number}
use Rattle.signal_words.specs.Values.{digits_in}
use Rattle.state_cells.proofs.diagnostic.is_triggered.Given as goal

abbrev pub invariant-loop-rising : goal.invariant-loop-rising
invariant-loop-rising l = record {
  was : l.was.number ≡ sig_number (digits_in l.before) l.trigger.on / 2 ^ l.rising-index;
  is : l.is.number ≡ sig_number (digits_in l.now) l.trigger.on / 2 ^ l.rising-index;
  none : some_edge (digits_in l.before) (digits_in l.now) l.trigger.on 0 l.trigger.rising ≡ some_edge (digits_in l.before) (digits_in l.now) l.trigger.on l.rising-index (drop l.rising-index l.trigger.rising);
}
