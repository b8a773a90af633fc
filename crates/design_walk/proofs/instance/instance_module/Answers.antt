use Rattle.std.proofs.Common.{ap, sym, ◌∙◌, rules}
use Rattle.rtlil_tree.specs.declared.module.Module.{Module}
use Rattle.design_instances.specs.Ports.{ports_of}
use Rattle.design_walk.proofs.Found.{instance_fails, instance_first, instance_passes, module_at, ports_found}
use Rattle.design_walk.proofs.instance.instance_module.Goals as goal

pub returns-in_err-number-clause-passes : goal.returns-in_err-number-clause-passes
returns-in_err-number-clause-passes c = λ ancestors opens.
    let h = instance_first c.args.modules.now ancestors c.args.owner.now c.args.around.now c.args.cell.now c.args.draft.now c.in_err-number.field-0.0 (c.in_err-number.ensures.passes ancestors opens) in
    search rules

pub returns-in_err-instance_allowed-clause-passes : goal.returns-in_err-instance_allowed-clause-passes
returns-in_err-instance_allowed-clause-passes c = λ ancestors opens.
    let statements = c.as_slice.ensures ∙ ap (λ (m : Module). m.statements) (sym c.index-modules-number.is) in
    let same = ports_found c.args.modules.now c.args.cell.now.kind c.in_ok-number.number c.index-modules-number.result c.in_ok-ports.ports c.in_ok-number.ensures.number c.in_ok-number.ensures.below c.index-modules-number.is (c.in_ok-ports.ensures ∙ ap ports_of statements) in
    let h = instance_fails c.args.modules.now ancestors c.args.owner.now c.args.around.now c.args.cell.now c.args.draft.now (c.in_ok-number.ensures.passes ancestors opens) c.in_ok-ports.ports same c.in_err-instance_allowed.field-0.0 c.in_err-instance_allowed.ensures.passes in
    search rules

pub returns-clause-passes : goal.returns-clause-passes
returns-clause-passes c = λ ancestors opens.
    let statements = c.as_slice.ensures ∙ ap (λ (m : Module). m.statements) (sym c.index-modules-number.is) in
    let same = ports_found c.args.modules.now c.args.cell.now.kind c.in_ok-number.number c.index-modules-number.result c.in_ok-ports.ports c.in_ok-number.ensures.number c.in_ok-number.ensures.below c.index-modules-number.is (c.in_ok-ports.ensures ∙ ap ports_of statements) in
    instance_passes c.args.modules.now ancestors c.args.owner.now c.args.around.now c.args.cell.now c.args.draft.now (c.in_ok-number.ensures.passes ancestors opens) c.in_ok-ports.ports same c.in_ok-instance_allowed.ensures.passes

pub returns-clause-is : goal.returns-clause-is
returns-clause-is c = module_at c.args.modules.now c.args.cell.now.kind c.in_ok-number.number c.in_ok-number.ensures.number

pub returns-clause-ports : goal.returns-clause-ports
returns-clause-ports c =
    let statements = c.as_slice.ensures ∙ ap (λ (m : Module). m.statements) (sym c.index-modules-number.is) in
    ports_found c.args.modules.now c.args.cell.now.kind c.in_ok-number.number c.index-modules-number.result c.in_ok-ports.ports c.in_ok-number.ensures.number c.in_ok-number.ensures.below c.index-modules-number.is (c.in_ok-ports.ensures ∙ ap ports_of statements)
