use Rattle.std.proofs.Common.{◌∙◌, ◌+◌, ◌&&◌, ap, sym, drop}
use Rattle.design_instances.specs.Instances.{are_narrow}
use Rattle.design_instances.proofs.Steps.{drop_at}
use Rattle.design_instances.proofs.allowed.are_narrow.Goals as goal

pub loop-at-preserved : goal.loop-at-preserved
loop-at-preserved c =
    c.loop-at.invariant ∙ ap are_narrow (drop_at c.args.ports.now c.loop-at.at (c.entry.result.0.now, c.entry.result.1) c.entry.ensures)
    ∙ ap (λ b. b && are_narrow (drop (c.loop-at.at + 1) c.args.ports.now)) (sym c.is_narrow.ensures ∙ c.if-not-is_narrow.false)

pub returns-then-not-is_narrow : goal.returns-then-not-is_narrow
returns-then-not-is_narrow c =
    sym (c.loop-at.invariant ∙ ap are_narrow (drop_at c.args.ports.now c.loop-at.at (c.entry.result.0.now, c.entry.result.1) c.entry.ensures)
    ∙ ap (λ b. b && are_narrow (drop (c.loop-at.at + 1) c.args.ports.now)) (sym c.is_narrow.ensures ∙ c.if-not-is_narrow.true))
