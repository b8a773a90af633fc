-- A chunk begins with a whole record, so that it has a time.
use Rattle.std.proofs.Common.{ap, sym, ◌∙◌}
use Rattle.spool_format.specs.Fields.{time_at}
use Rattle.spool_format.proofs.KeptOn.{first_time, some_same}
use Rattle.spool_format.proofs.view.SpoolView.first_time.Goals as goal

pub returns-in-Some : goal.returns-in-Some
returns-in-Some c =
    some_same _ _ (sym c.in-Some.is ∙ c.time.ensures ∙ ap (λ w. time_at w 0) c.chunk.ensures ∙ first_time c.args.self.now c.count-samples.ensures.run c.args.n c.requires)

pub returns-in-None : goal.returns-in-None
returns-in-None c =
    let there = sym c.in-None.is ∙ c.time.ensures ∙ ap (λ w. time_at w 0) c.chunk.ensures ∙ first_time c.args.self.now c.count-samples.ensures.run c.args.n c.requires in
    cc
