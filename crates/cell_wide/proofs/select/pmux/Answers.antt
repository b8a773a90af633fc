use Rattle.std.proofs.Common.{◌*◌, ◌/◌, ◌%◌, ◌^◌, sym, ◌∙◌, ap}
use Rattle.std.specs.Prelude.{◌==◌}
use Rattle.circuit.specs.Output.{lowest_from, output}
use Rattle.circuit.specs.Signal.{sig_number, sig_width}
use Rattle.sim_base.specs.Values.{width_at}
use Rattle.signal_words.specs.Values.{digits_in}
use Rattle.signal_words.proofs.Told.{same_put}
use Rattle.cell_wide.proofs.Selections.{pmux_output}
use Rattle.cell_wide.proofs.select.pmux.Goals as goal

pub returns-else-is_zero : goal.returns-else-is_zero
returns-else-is_zero c =
    let digits = digits_in c.args.nets.now in
    same_put c.args.out _ (output digits c.args.cell.now) c.args.into.now c.copy-else-is_zero.new.into c.copy-else-is_zero.result
    (ap (λ sig. sig_number digits sig / 2 ^ (c.args.cell.now.width * c.lowest_bit.result) % 2 ^ (width_at c.args.into.now c.args.out)) c.as_slice-else-is_zero.ensures
    ∙ pmux_output digits c.args.cell.now (width_at c.args.into.now c.args.out) (c.args.cell.now.width * c.lowest_bit.result) c.requires.kind c.requires.ready.into_width
    (ap (λ sig. (sig_number digits sig == 0)) (sym c.as_slice-s.ensures) ∙ sym c.is_zero.ensures ∙ c.if-is_zero.false)
    (ap (λ n. c.args.cell.now.width * n) (c.lowest_bit.ensures.place ∙ ap (λ sig. lowest_from (sig_width sig) 0 (sig_number digits sig)) c.as_slice-s.ensures))) c.copy-else-is_zero.ensures
