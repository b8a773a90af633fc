use Rattle.std.proofs.Common.{◌≡◌, List, length, sym, ap, subst, arith, ◌∙◌}
use Rattle.circuit.specs.declared.netlist.Drive.{Drive}
use Rattle.eval_plan.specs.TableInvariants.{TakesFromRowBefore, TakesFromRow, AreEntries, AreInRows, values_in}
use Rattle.eval_plan.specs.declared.entries.Entry.{Entry}
use Rattle.driver_check.proofs.Places.{within}
use Rattle.eval_plan.proofs.Given.{root_fits}
use Rattle.eval_plan.proofs.Listed.{entries_inside, no_entries, same_entries, table_listed}
use Rattle.eval_plan.proofs.listing.table_by.Goals as goal

pub loop-place-init : goal.loop-place-init
loop-place-init c =
    subst (λ (es : List Entry). AreEntries (TakesFromRowBefore c.args.circuit.now c.args.kind c.args.roots.now 0) es) (sym c.new-entries.ensures.items)
    (no_entries (TakesFromRowBefore c.args.circuit.now c.args.kind c.args.roots.now 0) (λ r k h. absurd (omega (arith, h.0))))

pub table_of-requires : goal.table_of-requires
table_of-requires c =
    subst (λ (es : List Entry). AreInRows es c.row_count.result) (sym c.deref.ensures.value)
    (entries_inside (TakesFromRowBefore c.args.circuit.now c.args.kind c.args.roots.now c.loop-place.place) c.loop-place.entries.items c.loop-place.invariant c.row_count.result (λ r k h.
    let root : Drive = h.1.0 in
    c.row_count.ensures root.width r root.by (root_fits c.args.circuit.now c.args.roots.now c.requires.roots k root h.1.1) h.1.2))

pub returns : goal.returns
returns c =
    let entries = c.loop-place.entries.items in
    let end : c.loop-place.place ≡ length c.args.roots.now = omega arith in
    let are : AreEntries (TakesFromRow c.args.circuit.now c.args.kind c.args.roots.now) entries =
    same_entries (TakesFromRowBefore c.args.circuit.now c.args.kind c.args.roots.now c.loop-place.place) (TakesFromRow c.args.circuit.now c.args.kind c.args.roots.now) (λ r k h. h.1)
    (λ r k h. (let lt = within c.args.roots.now k h.0 h.1 in omega (arith, lt, end), h)) entries c.loop-place.invariant in
    table_listed (TakesFromRow c.args.circuit.now c.args.kind c.args.roots.now) entries are c.in_ok-table.table
    (λ r. c.in_ok-table.ensures r ∙ ap (λ (es : List Entry). values_in r es) c.deref.ensures.value)
