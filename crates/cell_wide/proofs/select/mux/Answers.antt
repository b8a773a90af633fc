use Rattle.circuit.specs.Output.{output}
use Rattle.sim_base.specs.Values.{width_at}
use Rattle.signal_words.specs.Values.{digits_in}
use Rattle.signal_words.proofs.Told.{same_put}
use Rattle.cell_wide.proofs.Outputs.{mux_first, mux_second}
use Rattle.cell_wide.proofs.select.mux.Goals as goal

pub returns-then-is_one : goal.returns-then-is_one
returns-then-is_one c =
    let digits = digits_in c.args.nets.now in
    same_put c.args.out _ (output digits c.args.cell.now) c.args.into.now c.copy_whole.new.into c.copy_whole.result
    (mux_second digits c.args.cell.now (width_at c.args.into.now c.args.out) c.as_slice.result.now c.as_slice-then-is_one.result.now c.is_one.result c.requires.kind c.requires.ready.into_width c.as_slice.ensures c.as_slice-then-is_one.ensures c.is_one.ensures c.if-is_one.true) c.copy_whole.ensures

pub returns-else-is_one : goal.returns-else-is_one
returns-else-is_one c =
    let digits = digits_in c.args.nets.now in
    same_put c.args.out _ (output digits c.args.cell.now) c.args.into.now c.copy_whole-else-is_one.new.into c.copy_whole-else-is_one.result
    (mux_first digits c.args.cell.now (width_at c.args.into.now c.args.out) c.as_slice.result.now c.as_slice-else-is_one.result.now c.is_one.result c.requires.kind c.requires.ready.into_width c.as_slice.ensures c.as_slice-else-is_one.ensures c.is_one.ensures c.if-is_one.false) c.copy_whole-else-is_one.ensures
