use Rattle.std.proofs.Common.{List, ℕ, subst}
use Rattle.outside.specs.Sink.{TookPart}
use Rattle.cxxsim.proofs.Begun.{begun_part}
use Rattle.cxxsim.proofs.tracing.flush.Goals as goal

pub returns-in-Err-clause-begun : goal.returns-in-Err-clause-begun
returns-in-Err-clause-begun g c =
    begun_part (g.O.Sink.seen c.args.out.now).held (g.O.Sink.seen c.put_all.new.sink).held c.args.text.now.items
    (subst (λ (bytes : List ℕ). TookPart (g.O.Sink.seen c.args.out.now).held (g.O.Sink.seen c.put_all.new.sink).held bytes) c.deref.ensures.value c.in-Err.ensures.err)
