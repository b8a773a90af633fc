use Rattle.state_tests.proofs.StoresWritten.{net_written}
use Rattle.state_tests.proofs.parts.set_net.Goals as goal

pub returns : goal.returns
returns g c = λ k is. net_written k c.args.store.now c.args.net _ c.put.new.self c.put.ensures.value is
