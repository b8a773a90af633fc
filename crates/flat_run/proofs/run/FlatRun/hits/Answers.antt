use Rattle.std.proofs.Common.{ap, sym, ◌∙◌}
use Rattle.circuit.specs.Shown.{hits}
use Rattle.flat_run.specs.Run.{Sampled, run_of}
use Rattle.flat_run.proofs.Quiet.{none_hits}
use Rattle.flat_run.proofs.run.FlatRun.hits.Goals as goal

pub returns : goal.returns
returns c =
    sym (none_hits c.self.inside.circuit c.self.inside.stimulus c.self.inside.progress c.args.k c.args.kinds c.self.invariant)
    ∙ ap (λ (s : Sampled). hits (run_of s) c.args.k c.args.kinds) c.self.view_is
