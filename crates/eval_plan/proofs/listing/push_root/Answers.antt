use Rattle.std.proofs.Common.{◌≡◌, ◌+◌, List, sym, ◌∙◌, subst, Some}
use Rattle.std.specs.Prelude.{slice_get}
use Rattle.circuit.specs.declared.netlist.Drive.{Drive}
use Rattle.eval_plan.specs.TableInvariants.{TakesFromRowBefore, driver_row, AreEntries}
use Rattle.eval_plan.specs.declared.entries.Entry.{Entry}
use Rattle.driver_check.proofs.Places.{read}
use Rattle.eval_plan.proofs.Given.{root_fits, root_noted, root_passed}
use Rattle.eval_plan.proofs.listing.push_root.Goals as goal

pub driver_row-requires-clause-fits : goal.driver_row-requires-clause-fits
driver_row-requires-clause-fits c =
    root_fits c.args.circuit.now c.args.roots.now c.requires.roots c.args.place c.index-roots-place.result (read c.args.roots.now c.args.place c.index-roots-place.result c.requires.there c.index-roots-place.is)

pub returns-in_ok-push : goal.returns-in_ok-push
returns-in_ok-push c =
    let r : Drive = c.index-roots-place.result in
    let at : slice_get c.args.roots.now c.args.place ≡ Some r = read c.args.roots.now c.args.place r c.requires.there c.index-roots-place.is in
    let row : driver_row c.args.circuit.now c.args.kind r.by ≡ Some c.in-Some.row = sym c.driver_row.ensures ∙ c.in-Some.is in
    subst (λ (es : List Entry). AreEntries (TakesFromRowBefore c.args.circuit.now c.args.kind c.args.roots.now (c.args.place + 1)) es) (sym c.in_ok-push.ensures.items)
    (root_noted c.args.circuit.now c.args.kind c.args.roots.now c.args.place r at c.args.entries.now.items c.requires.entries c.in-Some.row row)

pub returns-in_default : goal.returns-in_default
returns-in_default c =
    let r : Drive = c.index-roots-place.result in
    let at : slice_get c.args.roots.now c.args.place ≡ Some r = read c.args.roots.now c.args.place r c.requires.there c.index-roots-place.is in
    root_passed c.args.circuit.now c.args.kind c.args.roots.now c.args.place r at c.args.entries.now.items c.requires.entries (sym c.driver_row.ensures ∙ c.in_default.is)
