use Rattle.std.proofs.Common.{◌≡◌, ℕ, ◌+◌, List, length, sym, ◌∙◌, ap, subst, arith, Some}
use Rattle.std.specs.Prelude.{slice_get}
use Rattle.circuit.specs.declared.netlist.Drive.{Drive}
use Rattle.circuit.specs.declared.netlist.Net.{Net}
use Rattle.driver_check.specs.Numbers.{IsInsideNet, start_of}
use Rattle.eval_plan.specs.OrderInvariants.{IsRun}
use Rattle.driver_check.proofs.Places.{read, same}
use Rattle.driver_check.proofs.Fitting.{drives_inside}
use Rattle.eval_plan.proofs.Rooted.{drive_done, origins_below}
use Rattle.eval_plan.proofs.roots.push_drive.Goals as goal

pub start-start-requires-clause-inside : goal.start-start-requires-clause-inside
start-start-requires-clause-inside c =
    let circuit = c.args.circuit.now in
    let d : Drive = c.index-as_slice-place.result in
    let at : slice_get circuit.drives c.args.place ≡ Some d = subst (λ (xs : List Drive). slice_get xs c.args.place ≡ Some d) c.as_slice.ensures
    (read c.as_slice.result.now c.args.place d (omega (arith, c.requires.there, ap (λ (xs : List Drive). length xs) c.as_slice.ensures)) c.index-as_slice-place.is) in
    subst (λ (nets : List Net). IsInsideNet nets d) (sym c.as_slice-2.ensures) (drives_inside circuit c.requires.valid c.args.place d at)

pub run_length-count-requires-clause-origins : goal.run_length-count-requires-clause-origins
run_length-count-requires-clause-origins c = λ v low high.
    let is = c.requires.sorting in
    let lt = origins_below c.args.circuit.now c.args.origins.now c.requires.origins v (omega (arith, high, c.start-start.ensures.inside, c.loop-at.invariant.within, is.numbers.total)) in
    omega (arith, lt, is.numbers.total, is.owners_long, ap (λ (xs : List ℕ). length xs) c.deref.ensures.value)

pub push_run-requires-clause-inside : goal.push_run-requires-clause-inside
push_run-requires-clause-inside c = λ e there.
    let circuit = c.args.circuit.now in
    let d : Drive = c.index-as_slice-place.result in
    let at : slice_get circuit.drives c.args.place ≡ Some d = subst (λ (xs : List Drive). slice_get xs c.args.place ≡ Some d) c.as_slice.ensures
    (read c.as_slice.result.now c.args.place d (omega (arith, c.requires.there, ap (λ (xs : List Drive). length xs) c.as_slice.ensures)) c.index-as_slice-place.is) in
    let z : d ≡ e = same circuit.drives c.args.place d e at there in
    let w = ap (λ (u : Drive). u.width) z in
    omega (arith, c.run_length-count.ensures.within, c.loop-at.invariant.within, w)

pub push_run-requires-clause-run : goal.push_run-requires-clause-run
push_run-requires-clause-run c = λ e there.
    let circuit = c.args.circuit.now in
    let d : Drive = c.index-as_slice-place.result in
    let at : slice_get circuit.drives c.args.place ≡ Some d = subst (λ (xs : List Drive). slice_get xs c.args.place ≡ Some d) c.as_slice.ensures
    (read c.as_slice.result.now c.args.place d (omega (arith, c.requires.there, ap (λ (xs : List Drive). length xs) c.as_slice.ensures)) c.index-as_slice-place.is) in
    let z : d ≡ e = same circuit.drives c.args.place d e at there in
    let start : c.start-start.result ≡ start_of circuit.nets d = c.start-start.ensures.value ∙ ap (λ (nets : List Net). start_of nets d) c.as_slice-2.ensures in
    subst (λ (u : Drive). IsRun c.args.sorting.now.owners.items c.args.origins.now (start_of circuit.nets u + c.loop-at.at) c.run_length-count.result) z
    (subst (λ (v : ℕ). IsRun c.args.sorting.now.owners.items c.args.origins.now (v + c.loop-at.at) c.run_length-count.result) start
    (subst (λ (owners : List ℕ). IsRun owners c.args.origins.now (c.start-start.result + c.loop-at.at) c.run_length-count.result) c.deref.ensures.value c.run_length-count.ensures.run))

pub returns : goal.returns
returns c =
    let circuit = c.args.circuit.now in
    let d : Drive = c.index-as_slice-place.result in
    let at : slice_get circuit.drives c.args.place ≡ Some d = subst (λ (xs : List Drive). slice_get xs c.args.place ≡ Some d) c.as_slice.ensures
    (read c.as_slice.result.now c.args.place d (omega (arith, c.requires.there, ap (λ (xs : List Drive). length xs) c.as_slice.ensures)) c.index-as_slice-place.is) in
    drive_done circuit c.args.place c.loop-at.at d at (omega arith) c.loop-at.roots c.loop-at.invariant.roots
