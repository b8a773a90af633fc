use Rattle.std.proofs.Common.{◌^◌, ◌<◌, ◌∙◌, ap, subst}
use Rattle.sim_base.specs.BitValue.{BitValue}
use Rattle.circuit.specs.Output.{output}
use Rattle.circuit.specs.Signal.{sig_number, sig_width}
use Rattle.sim_base.specs.Values.{width_at}
use Rattle.signal_words.specs.Values.{digits_in}
use Rattle.signal_words.proofs.Signals.{are_bits}
use Rattle.signal_words.proofs.Told.{same_put}
use Rattle.cell_wide.specs.Words.{low_of_chain, low_of_number}
use Rattle.cell_wide.proofs.Selections.{concat_output}
use Rattle.cell_wide.proofs.select.concat.Goals as goal

pub returns : goal.returns
returns c =
    let digits = digits_in c.args.nets.now in
    let w = (width_at c.args.into.now c.args.out) in
    let lt : sig_number digits c.args.cell.now.a < 2 ^ sig_width c.args.cell.now.a = subst (λ sig. sig_number digits sig < 2 ^ sig_width sig) c.as_slice-a.ensures (c.sig_width.ensures.below (digits_in c.args.nets.now) (are_bits c.args.nets.now)) in
    same_put c.args.out _ (output digits c.args.cell.now) c.args.into.now c.write.new.into c.write.result
    (ap (λ n. low_of_chain (low_of_number n) c.sig_width.result (low_of_number c.new-2.result.number) w) (ap (λ (v : BitValue). v.number) c.new.ensures ∙ ap (sig_number (digits_in c.args.nets.now)) c.as_slice-a.ensures)
    ∙ ap (λ n. low_of_chain (low_of_number (sig_number digits c.args.cell.now.a)) c.sig_width.result (low_of_number n) w) (ap (λ (v : BitValue). v.number) c.new-2.ensures ∙ ap (sig_number (digits_in c.args.nets.now)) c.as_slice.ensures)
    ∙ concat_output digits c.args.cell.now w c.sig_width.result c.requires.kind c.requires.ready.into_width (c.sig_width.ensures.value ∙ ap sig_width c.as_slice-a.ensures) lt) c.write.ensures
