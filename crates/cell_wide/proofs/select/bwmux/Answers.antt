use Rattle.std.proofs.Common.{◌%◌, ◌^◌, bit_and, bit_xor, sym, ◌∙◌, ap}
use Rattle.sim_base.specs.BitValue.{BitValue}
use Rattle.circuit.specs.Output.{output}
use Rattle.circuit.specs.Signal.{sig_number}
use Rattle.sim_base.specs.Values.{width_at}
use Rattle.signal_words.specs.Values.{digits_in}
use Rattle.signal_words.proofs.Told.{same_put}
use Rattle.cell_wide.proofs.Selections.{bwmux_output}
use Rattle.cell_wide.proofs.select.bwmux.Goals as goal

pub returns : goal.returns
returns c =
    same_put c.args.out _ (output (digits_in c.args.nets.now) c.args.cell.now) c.args.into.now c.write.new.into c.write.result
    (ap (λ (v : BitValue). bit_xor (v.number % 2 ^ (width_at c.args.into.now c.args.out)) (bit_and (bit_xor (c.new.result.number % 2 ^ (width_at c.args.into.now c.args.out)) (c.new-2.result.number % 2 ^ (width_at c.args.into.now c.args.out))) (c.new-3.result.number % 2 ^ (width_at c.args.into.now c.args.out)))) (c.new-4.ensures ∙ sym c.new.ensures)
    ∙ bwmux_output (digits_in c.args.nets.now) c.args.cell.now (width_at c.args.into.now c.args.out) c.new.result.number c.new-2.result.number c.new-3.result.number c.requires.kind c.requires.ready.into_width (ap (λ (v : BitValue). v.number) c.new.ensures ∙ ap (sig_number (digits_in c.args.nets.now)) c.as_slice-a.ensures) (ap (λ (v : BitValue). v.number) c.new-2.ensures ∙ ap (sig_number (digits_in c.args.nets.now)) c.as_slice.ensures) (ap (λ (v : BitValue). v.number) c.new-3.ensures ∙ ap (sig_number (digits_in c.args.nets.now)) c.as_slice-2.ensures)) c.write.ensures
