use Rattle.std.proofs.Common.{◌≡◌, ◌-◌, ◌/◌, ◌^◌, ◌≤◌, cond}
use Rattle.circuit.specs.Next.{register_inputs, bit_by_bit}
use Rattle.circuit.specs.Signal.{sig_number}
use Rattle.sim_base.specs.Values.{number_at}
use Rattle.sim_base.proofs.Written.{IsCopied}
use Rattle.signal_words.specs.Values.{digits_in}
use Rattle.state_cells.proofs.register.put_under_bits.Given as goal

abbrev pub invariant-loop-at : goal.invariant-loop-at
invariant-loop-at l = record {
  inside : l.at ≤ l.width;
  input : l.input.number ≡ sig_number (digits_in l.nets) l.reg.d / 2 ^ l.at;
  set : l.set.number ≡ sig_number (digits_in l.nets) l.reg.set / 2 ^ l.at;
  clr : l.clr.number ≡ sig_number (digits_in l.nets) l.reg.clr / 2 ^ l.at;
  copied : IsCopied l.fn.into l.into l.out 0 (bit_by_bit l.fn.reg.width (register_inputs (digits_in l.nets) (digits_in l.nets) l.reg) (cond l.from_input (sig_number (digits_in l.nets) l.reg.d) (number_at l.fn.into l.out))) 0 l.at l.changed;
}

abbrev pub decreases-loop-at : goal.decreases-loop-at
decreases-loop-at l = l.width - l.at
