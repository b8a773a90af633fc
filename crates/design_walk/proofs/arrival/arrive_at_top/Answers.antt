use Rattle.std.proofs.Common.{◌≡◌, length, ◌∙◌, rules}
use Rattle.design_wires.specs.Places.{seen_here}
use Rattle.design_walk.specs.Instances.{top_place}
use Rattle.design_walk.proofs.Arrivals.{top_first, top_last, top_scope, top_then}
use Rattle.design_walk.proofs.arrival.arrive_at_top.Goals as goal

pub returns-in_err-enter_top-clause-runs : goal.returns-in_err-enter_top-clause-runs
returns-in_err-enter_top-clause-runs c =
    let h = top_first c.args.unit.now c.args.draft.now c.in_err-enter_top.field-0.0 c.in_err-enter_top.ensures in
    search rules

pub returns-in_err-wires-clause-runs : goal.returns-in_err-wires-clause-runs
returns-in_err-wires-clause-runs c =
    let stands : seen_here c.here.result ≡ top_place c.args.unit.now (length c.args.draft.now.scopes) = search rules in
    let h = top_last c.args.unit.now c.args.draft.now c.enter_top.new.draft c.in_ok-enter_top.ensures (seen_here c.here.result) c.as_slice.result.now stands c.as_slice.ensures c.in_err-wires.field-0.0 c.in_err-wires.ensures.runs in
    search rules

pub returns-clause-runs : goal.returns-clause-runs
returns-clause-runs c =
    let stands : seen_here c.here.result ≡ top_place c.args.unit.now (length c.args.draft.now.scopes) = search rules in
    top_then c.args.unit.now c.args.draft.now c.enter_top.new.draft c.in_ok-enter_top.ensures (seen_here c.here.result) c.as_slice.result.now stands c.as_slice.ensures
    ∙ c.in_ok-wires.ensures.runs

pub returns-clause-wires : goal.returns-clause-wires
returns-clause-wires c =
    let stands : seen_here c.here.result ≡ top_place c.args.unit.now (length c.args.draft.now.scopes) = search rules in
    top_scope c.args.unit.now c.args.draft.now c.enter_top.new.draft c.in_ok-enter_top.ensures (seen_here c.here.result) c.as_slice.result.now stands c.as_slice.ensures c.in_ok-wires.wires c.in_ok-wires.ensures.scope
