use Rattle.std.proofs.Common.{option_map, ◌++◌, arith, ◌∙◌}
use Rattle.std.proofs.lemmas.List.{at_drop_all}
use Rattle.std.proofs.lemmas.Result.{err_from_is_err_and}
use Rattle.serde_json.specs.View.{items_view}
use Rattle.proto_packets.specs.Kind.{each_designation}
use Rattle.proto_packets.proofs.Loops.{designations_at, no_designation_at, designations_none, Gives-fault}
use Rattle.proto_packets.proofs.kind.designations_in.Goals as goal

pub returns-in_err-designation : goal.returns-in_err-designation
returns-in_err-designation c =
    let p = err_from_is_err_and c.from_residual.result c.from_residual.ensures.1 in
    rw (p.1, p.2) (Gives-fault _ _ c.in_err-designation.field-0.0 _ _ c.in_err-designation.ensures (λ none. c.loop-value.invariant ∙ no_designation_at c.args.list.now c.loop-value.value-index c.value-item.result (omega arith) c.value-item.is c.loop-value.found none))

pub loop-value-preserved : goal.loop-value-preserved
loop-value-preserved c =
    rw c.in_ok-push.ensures.ok (c.loop-value.invariant ∙ designations_at c.args.list.now c.loop-value.value-index c.value-item.result (omega arith) c.value-item.is c.loop-value.found c.in_ok-designation.field-0 c.in_ok-designation.ensures)

pub returns : goal.returns
returns c =
    c.loop-value.invariant
    ∙ (at_drop_all (λ vs. option_map (λ more. c.loop-value.found ++ more) (each_designation (items_view vs))) c.args.list.now c.loop-value.value-index (omega arith)
    ∙ designations_none c.loop-value.found)
