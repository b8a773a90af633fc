use Rattle.circuit.specs.Output.{output}
use Rattle.sim_base.specs.Values.{width_at}
use Rattle.signal_words.proofs.Told.{same_put}
use Rattle.cell_wide.proofs.Outputs.{not_output}
use Rattle.cell_wide.proofs.bitwise.unary_by.Goals as goal

pub returns-in-Not : goal.returns-in-Not
returns-in-Not g c digits read =
    same_put c.args.out _ (output digits c.args.cell.now) c.args.into.now c.write.new.into c.write.result
    (not_output digits c.args.cell.now (width_at c.args.into.now c.args.out) _ c.in-Not.is c.requires.into read) c.write.ensures
