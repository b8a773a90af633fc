use Rattle.std.proofs.Common.{◌≡◌, length, ◌∙◌, rules}
use Rattle.design_wires.specs.Places.{seen_here}
use Rattle.design_walk.specs.Instances.{place_within}
use Rattle.design_walk.proofs.Arrivals.{arrival_first, arrival_joins, arrival_last, arrival_scope, arrival_wires}
use Rattle.design_walk.proofs.arrival.arrive.Goals as goal

pub returns-in_err-enter-clause-runs : goal.returns-in_err-enter-clause-runs
returns-in_err-enter-clause-runs c =
    let h = arrival_first (seen_here c.args.around.now) c.args.around_wires.now c.args.cell.now c.args.unit.now c.args.draft.now c.in_err-enter.field-0.0 c.in_err-enter.ensures in
    search rules

pub returns-in_err-wires-clause-runs : goal.returns-in_err-wires-clause-runs
returns-in_err-wires-clause-runs c =
    let stands : seen_here c.here.result ≡ place_within (seen_here c.args.around.now) c.args.unit.now.name c.args.cell.now.name (length c.args.draft.now.scopes) = search rules in
    let h = arrival_wires (seen_here c.args.around.now) c.args.around_wires.now c.args.cell.now c.args.unit.now c.args.draft.now c.enter.new.draft c.in_ok-enter.ensures (seen_here c.here.result) c.as_slice.result.now stands c.as_slice.ensures c.in_err-wires.field-0.0 c.in_err-wires.ensures.runs in
    search rules

pub returns-in_err-join_cell-clause-runs : goal.returns-in_err-join_cell-clause-runs
returns-in_err-join_cell-clause-runs c =
    let stands : seen_here c.here.result ≡ place_within (seen_here c.args.around.now) c.args.unit.now.name c.args.cell.now.name (length c.args.draft.now.scopes) = search rules in
    let h = arrival_last (seen_here c.args.around.now) c.args.around_wires.now c.args.cell.now c.args.unit.now c.args.draft.now c.enter.new.draft c.in_ok-enter.ensures (seen_here c.here.result) c.as_slice.result.now stands c.as_slice.ensures c.wires.new.draft c.in_ok-wires.ensures.runs c.in_ok-wires.wires c.in_ok-wires.ensures.scope c.in_err-join_cell.field-0.0 c.in_err-join_cell.ensures in
    search rules

pub returns-clause-runs : goal.returns-clause-runs
returns-clause-runs c =
    let stands : seen_here c.here.result ≡ place_within (seen_here c.args.around.now) c.args.unit.now.name c.args.cell.now.name (length c.args.draft.now.scopes) = search rules in
    arrival_joins (seen_here c.args.around.now) c.args.around_wires.now c.args.cell.now c.args.unit.now c.args.draft.now c.enter.new.draft c.in_ok-enter.ensures (seen_here c.here.result) c.as_slice.result.now stands c.as_slice.ensures c.wires.new.draft c.in_ok-wires.ensures.runs c.in_ok-wires.wires c.in_ok-wires.ensures.scope
    ∙ c.in_ok-join_cell.ensures

pub returns-clause-wires : goal.returns-clause-wires
returns-clause-wires c =
    let stands : seen_here c.here.result ≡ place_within (seen_here c.args.around.now) c.args.unit.now.name c.args.cell.now.name (length c.args.draft.now.scopes) = search rules in
    arrival_scope (seen_here c.args.around.now) c.args.around_wires.now c.args.cell.now c.args.unit.now c.args.draft.now c.enter.new.draft c.in_ok-enter.ensures (seen_here c.here.result) c.as_slice.result.now stands c.as_slice.ensures c.in_ok-wires.wires c.in_ok-wires.ensures.scope
