use Rattle.std.proofs.Common.{◌*◌, ◌<◌, sym, ◌∙◌, ap, subst}
use Rattle.sim_base.specs.BitValue.{BitValue}
use Rattle.circuit.specs.Output.{output}
use Rattle.circuit.specs.Signal.{sig_number, sig_width}
use Rattle.signal_words.specs.Values.{digits_in}
use Rattle.signal_words.proofs.Told.{same_put}
use Rattle.std.proofs.Common.{false}
use Rattle.sim_base.specs.Values.{width_at}
use Rattle.cell_wide.specs.Words.{low_of_chain, low_of_fill, low_of_number}
use Rattle.cell_wide.proofs.Selections.{demux_output, demux_width}
use Rattle.cell_wide.proofs.select.demux.Goals as goal

pub returns : goal.returns
returns c =
    let digits = digits_in c.args.nets.now in
    same_put c.args.out _ (output digits c.args.cell.now) c.args.into.now c.write.new.into c.write.result
    (ap (λ n. low_of_chain (low_of_fill false) c.selected.result (low_of_number n) (width_at c.args.into.now c.args.out)) (ap (λ (v : BitValue). v.number) c.new.ensures ∙ ap (sig_number (digits_in c.args.nets.now)) c.as_slice-a.ensures)
    ∙ demux_output digits c.args.cell.now (width_at c.args.into.now c.args.out) c.selected.result c.requires.kind c.requires.ready.into_width (demux_width c.args.cell.now c.requires.kind c.requires.ready.fits) (λ some.
    let long = c.sig_width.ensures.value ∙ ap sig_width c.as_slice-a.ensures in
    c.selected.ensures (subst (λ k. 0 < k) (sym long) some) ∙ ap (λ k. k * sig_number digits c.as_slice.result.now) long ∙ ap (λ sig. sig_width c.args.cell.now.a * sig_number digits sig) c.as_slice.ensures)) c.write.ensures
