use Rattle.std.proofs.Common.{◌≡◌, None, Some, bytes_eq, rules}
use Rattle.std.specs.Map.{lookup}
use Rattle.circuit.specs.declared.fault.DesignKind.TheVariants as kind
use Rattle.design_parts.specs.Parts.{Says, at}
use Rattle.design_walk.proofs.Found.{number_below, numbered_named, type_passes, type_recursive, type_unknown}
use Rattle.design_walk.proofs.instance.number_of.Goals as goal

pub returns-in_default-clause-passes : goal.returns-in_default-clause-passes
returns-in_default-clause-passes c = λ ancestors opens.
    let none : lookup (bytes_eq c.args.cell.now.kind) c.args.places.now ≡ None = search rules in
    let says : Says c.refused_at.result (at kind.UnknownCell c.args.owner.now c.args.cell.now.name) = search rules in
    type_unknown c.args.modules.now ancestors c.args.owner.now c.args.cell.now c.args.places.now c.args.open_modules.now c.requires c.refused_at.result none says

pub returns-then-is_set-clause-passes : goal.returns-then-is_set-clause-passes
returns-then-is_set-clause-passes c = λ ancestors opens.
    let is : lookup (bytes_eq c.args.cell.now.kind) c.args.places.now ≡ Some c.in-Some.number = search rules in
    let says : Says c.refused_at-then-is_set.result (at kind.RecursiveModules c.args.owner.now c.args.cell.now.name) = search rules in
    type_recursive c.args.modules.now ancestors c.args.owner.now c.args.cell.now c.args.places.now c.args.open_modules.now c.requires c.in-Some.number is opens c.refused_at-then-is_set.result c.is_set.result c.is_set.ensures c.if-is_set.true says

pub returns-clause-passes : goal.returns-clause-passes
returns-clause-passes c = λ ancestors opens.
    let is : lookup (bytes_eq c.args.cell.now.kind) c.args.places.now ≡ Some c.in-Some.number = search rules in
    type_passes c.args.modules.now ancestors c.args.owner.now c.args.cell.now c.args.places.now c.args.open_modules.now c.requires c.in-Some.number is opens c.is_set.result c.is_set.ensures c.if-is_set.false

pub returns-clause-below : goal.returns-clause-below
returns-clause-below c =
    let is : lookup (bytes_eq c.args.cell.now.kind) c.args.places.now ≡ Some c.in-Some.number = search rules in
    number_below c.args.modules.now c.args.cell.now.kind c.in-Some.number (numbered_named c.args.modules.now c.args.places.now c.args.cell.now.kind c.in-Some.number c.requires is)
