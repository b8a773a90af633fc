use Rattle.std.proofs.Common.{rules, ◌+◌, ◌++◌, length, drop, subst, sym, ap, ◌∙◌, append_assoc}
use Rattle.std.proofs.lemmas.List.{at_drop_all}
use Rattle.design_parts.specs.Parts.{Fails, run}
use Rattle.design_wires.specs.Places.{seen_here}
use Rattle.design_wires.specs.Wires.{wires}
use Rattle.design_wires.proofs.Steps.{scope_more, wires_more, wires_none, wires_stop}
use Rattle.design_wires.proofs.wire.wires.Goals as goal

pub returns-in_err-take_wire-clause-runs : goal.returns-in_err-take_wire-clause-runs
returns-in_err-take_wire-clause-runs c =
    let h = subst (Fails c.in_err-take_wire.field-0.0) (sym c.loop-statement.invariant.same) (wires_stop (seen_here c.args.here.now) c.loop-statement.scope c.args.statements.now c.loop-statement.statement-index c.statement-item.result c.loop-statement.draft c.loop-statement-test.true c.statement-item.is c.in_err-take_wire.field-0.0 c.in_err-take_wire.ensures.runs) in
    search rules

pub loop-statement-preserved : goal.loop-statement-preserved
loop-statement-preserved c =
    let all = c.args.statements.now in
    let i = c.loop-statement.statement-index in
    let n = length c.loop-statement.draft.nets in
    let s = c.statement-item.result in
    record {
      same = c.loop-statement.invariant.same ∙ wires_more (seen_here c.args.here.now) c.loop-statement.scope all i s c.loop-statement.draft c.loop-statement-test.true c.statement-item.is c.take_wire.new.draft c.in_ok-take_wire.ensures.runs ∙ ap (λ scope. run (wires (seen_here c.args.here.now) scope (drop (i + 1) all)) c.take_wire.new.draft) (sym c.in_ok-take_wire.ensures.scope);
      scope = rw (c.in_ok-take_wire.ensures.scope, c.in_ok-take_wire.ensures.counted, append_assoc) (ap (λ rest. c.loop-statement.scope ++ rest) (sym (scope_more n all i s c.loop-statement-test.true c.statement-item.is)) ∙ c.loop-statement.invariant.scope);
    }

pub returns-clause-runs : goal.returns-clause-runs
returns-clause-runs c = c.loop-statement.invariant.same ∙ at_drop_all (λ rest. run (wires (seen_here c.args.here.now) c.loop-statement.scope rest) c.loop-statement.draft) c.args.statements.now c.loop-statement.statement-index c.loop-statement-test.false ∙ wires_none (seen_here c.args.here.now) c.loop-statement.scope c.loop-statement.draft
