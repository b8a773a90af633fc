use Rattle.std.proofs.Common.{ap, sym}
use Rattle.circuit.specs.Next.{register_inputs}
use Rattle.sim_base.specs.Values.{number_at}
use Rattle.sim_base.proofs.Written.{put_same}
use Rattle.signal_words.specs.Values.{digits_in}
use Rattle.state_cells.specs.Sources.{sourced_number}
use Rattle.state_cells.proofs.register.put_whole.Goals as goal

pub returns-in-Own : goal.returns-in-Own
returns-in-Own c before =
    put_same c.args.into.now c.args.out _ (ap (λ s. sourced_number s (register_inputs before (digits_in c.args.nets.now) c.args.reg.now) (number_at c.args.into.now c.args.out)) (sym c.in-Own.is))
