use Rattle.circuit.specs.Output.{modulo, truth}
use Rattle.sim_base.specs.Values.{width_at}
use Rattle.signal_words.proofs.Told.{same_put}
use Rattle.cell_wide.proofs.Truths.{truth_number}
use Rattle.cell_wide.proofs.truth.put_truth_wide.Goals as goal

pub returns : goal.returns
returns c =
    let width = (width_at c.args.into.now c.args.out) in
    same_put c.args.out _ (modulo width (truth c.args.ones)) c.args.into.now c.write.new.into c.write.result (truth_number c.args.ones width) c.write.ensures
