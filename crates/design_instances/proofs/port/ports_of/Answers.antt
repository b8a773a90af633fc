use Rattle.std.proofs.Common.{◌+◌, drop, ap, sym, ◌∙◌}
use Rattle.std.proofs.lemmas.List.{at_drop_all}
use Rattle.design_instances.specs.Ports.{ports_behind}
use Rattle.design_instances.proofs.Steps.{ports_more, ports_none}
use Rattle.design_instances.proofs.port.ports_of.Goals as goal

pub loop-statement-preserved : goal.loop-statement-preserved
loop-statement-preserved c =
    ap (λ earlier. ports_behind earlier (drop (c.loop-statement.statement-index + 1) c.args.statements.now)) c.in_ok-add_statement.ensures
    ∙ sym (ports_more c.loop-statement.ports c.args.statements.now c.loop-statement.statement-index c.statement-item.result c.loop-statement-test.true c.statement-item.is) ∙ c.loop-statement.invariant

pub returns : goal.returns
returns c = sym (ports_none c.loop-statement.ports) ∙ sym (at_drop_all (ports_behind c.loop-statement.ports) c.args.statements.now c.loop-statement.statement-index c.loop-statement-test.false) ∙ c.loop-statement.invariant
