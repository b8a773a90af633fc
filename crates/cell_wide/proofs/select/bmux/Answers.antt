use Rattle.std.proofs.Common.{◌*◌, ◌/◌, ◌%◌, ◌^◌, ◌∙◌, ap}
use Rattle.circuit.specs.Output.{output}
use Rattle.circuit.specs.Signal.{sig_number}
use Rattle.sim_base.specs.Values.{width_at}
use Rattle.signal_words.specs.Values.{digits_in}
use Rattle.signal_words.proofs.Told.{same_put}
use Rattle.cell_wide.proofs.Selections.{bmux_output}
use Rattle.cell_wide.proofs.select.bmux.Goals as goal

pub returns : goal.returns
returns c =
    let digits = digits_in c.args.nets.now in
    same_put c.args.out _ (output digits c.args.cell.now) c.args.into.now c.copy.new.into c.copy.result
    (ap (λ sig. sig_number digits sig / 2 ^ c.selected-at.result % 2 ^ (width_at c.args.into.now c.args.out)) c.as_slice-2.ensures
    ∙ bmux_output digits c.args.cell.now (width_at c.args.into.now c.args.out) c.selected-at.result c.requires.kind c.requires.ready.into_width (λ some. c.selected-at.ensures some ∙ ap (λ sig. c.args.cell.now.width * sig_number digits sig) c.as_slice.ensures)) c.copy.ensures
