use Rattle.std.proofs.Common.{◌≡◌, ℕ, List, length, Option, Ok, ap, subst, refl, ◌∙◌, rules}
use Rattle.rtlil_tree.specs.declared.module.Module.{Module}
use Rattle.rtlil_tree.specs.declared.module.Statement.{Statement}
use Rattle.design_parts.specs.Parts.{Fails, run}
use Rattle.design_wires.specs.Places.{InstancePlace}
use Rattle.design_instances.specs.Ports.{ports_of}
use Rattle.design_names.specs.Clashes.{clashes_in}
use Rattle.design_walk.specs.Instances.{place_within, statements_in}
use Rattle.design_walk.specs.Walks.{arrival, flags_of}
use Rattle.design_descent.proofs.Gone.{arrival_fails, gone_into, instance_refused}
use Rattle.design_descent.proofs.Names.{named_at}
use Rattle.design_descent.proofs.statement.take_instance.Goals as goal

pub returns-in_err-found : goal.returns-in_err-found
returns-in_err-found c = λ names opens.
    let h = λ (depth : ℕ). instance_refused c.args.modules.now names c.args.frame.now c.args.cell.now c.args.draft.now depth c.in_err-found.field-0.0 (c.in_err-found.ensures.passes names opens) in
    search rules

pub arrive-requires-clause-ports : goal.arrive-requires-clause-ports
arrive-requires-clause-ports c =
    let is = named_at c.args.modules.now c.args.cell.now.kind c.in_ok-found.found.number c.index-modules-found.result c.in_ok-found.ensures.is c.in_ok-found.ensures.below c.index-modules-found.is in
    c.in_ok-found.ensures.ports ∙ ap (λ (o : Option Module). ports_of (statements_in o)) is

pub returns-in_err-inside : goal.returns-in_err-inside
returns-in_err-inside c = λ names opens.
    let unit = c.index-modules-found.result in
    let is = named_at c.args.modules.now c.args.cell.now.kind c.in_ok-found.found.number unit c.in_ok-found.ensures.is c.in_ok-found.ensures.below c.index-modules-found.is in
    let fails = subst (λ (p : InstancePlace). Fails c.in_err-inside.field-0.0 (run (arrival p c.args.frame.now.wires c.args.cell.now unit) c.args.draft.now)) c.here-place.ensures c.in_err-inside.ensures.runs in
    let h = λ (depth : ℕ). arrival_fails c.args.modules.now names c.args.frame.now c.args.cell.now c.args.draft.now unit is (c.in_ok-found.ensures.passes names opens) depth c.in_err-inside.field-0.0 fails in
    search rules

pub returns : goal.returns
returns c = λ names opens.
    let unit = c.index-modules-found.result in
    let old = c.args.draft.now in
    let is = named_at c.args.modules.now c.args.cell.now.kind c.in_ok-found.found.number unit c.in_ok-found.ensures.is c.in_ok-found.ensures.below c.index-modules-found.is in
    let runs = subst (λ (p : InstancePlace). run (arrival p c.args.frame.now.wires c.args.cell.now unit) old ≡ Ok c.arrive.new.draft) c.here-place.ensures c.in_ok-inside.ensures.runs in
    let stands = c.in_ok-inside.ensures.place ∙ ap (λ (p : InstancePlace). place_within p unit.name c.args.cell.now.name (length old.scopes)) c.here-place.ensures in
    let flags = c.in_ok-clashes.ensures ∙ ap (λ (ss : List Statement). flags_of (clashes_in c.in_ok-inside.inside.wires ss)) c.as_slice.ensures in
    gone_into c.args.modules.now names c.args.frame.now c.args.cell.now old c.arrive.new.draft _ is c.in_ok-found.ensures.number (c.in_ok-found.ensures.passes names opens) runs stands c.in_ok-inside.ensures.wires flags refl
