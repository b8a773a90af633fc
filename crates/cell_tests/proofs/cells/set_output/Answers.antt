use Rattle.cell_tests.proofs.StoresWritten.{output_written}
use Rattle.cell_tests.proofs.cells.set_output.Goals as goal

pub returns : goal.returns
returns g c = λ k is. output_written k c.args.store.now c.args.cell _ c.put.new.self c.put.ensures.value is
