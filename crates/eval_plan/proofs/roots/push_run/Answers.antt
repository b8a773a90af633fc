use Rattle.std.proofs.Common.{◌≡◌, ℕ, ◌+◌, ◌-◌, ◌<◌, ◌≤◌, List, length, sym, ◌∙◌, ap, subst, arith, Some}
use Rattle.std.specs.Prelude.{slice_get, slice_index}
use Rattle.std.proofs.lemmas.List.{get_or_read}
use Rattle.circuit.specs.declared.netlist.Drive.{Drive}
use Rattle.circuit.specs.declared.netlist.Net.{Net}
use Rattle.driver_check.specs.Numbers.{IsInsideNet, start_of}
use Rattle.eval_plan.specs.OrderInvariants.{AreRootsOf}
use Rattle.eval_plan.specs.Roots.{root_source}
use Rattle.driver_check.proofs.Places.{read}
use Rattle.driver_check.proofs.Fitting.{drive_fits_at, drives_inside}
use Rattle.eval_plan.proofs.Rooted.{origin_below, origin_in, run_with, run_without}
use Rattle.eval_plan.proofs.roots.push_run.Goals as goal

pub start-start-requires-clause-inside : goal.start-start-requires-clause-inside
start-start-requires-clause-inside c =
    let circuit = c.args.circuit.now in
    let d : Drive = c.index-drives-place.result in
    let at : slice_get circuit.drives c.args.place ≡ Some d = subst (λ (xs : List Drive). slice_get xs c.args.place ≡ Some d) c.as_slice-drives.ensures
    (read c.as_slice-drives.result.now c.args.place d (omega (arith, c.requires.there, ap (λ (xs : List Drive). length xs) c.as_slice-drives.ensures)) c.index-drives-place.is) in
    subst (λ (nets : List Net). IsInsideNet nets d) (sym c.as_slice.ensures) (drives_inside circuit c.requires.valid c.args.place d at)

pub bounds-origins-start : goal.bounds-origins-start
bounds-origins-start c =
    let circuit = c.args.circuit.now in
    let d : Drive = c.index-drives-place.result in
    let at : slice_get circuit.drives c.args.place ≡ Some d = subst (λ (xs : List Drive). slice_get xs c.args.place ≡ Some d) c.as_slice-drives.ensures
    (read c.as_slice-drives.result.now c.args.place d (omega (arith, c.requires.there, ap (λ (xs : List Drive). length xs) c.as_slice-drives.ensures)) c.index-drives-place.is) in
    omega (arith, c.start-start.ensures.inside, c.requires.inside d at, c.requires.some, c.requires.length)

pub index-owner-requires : goal.index-owner-requires
index-owner-requires c =
    let circuit = c.args.circuit.now in
    let d : Drive = c.index-drives-place.result in
    let at : slice_get circuit.drives c.args.place ≡ Some d = subst (λ (xs : List Drive). slice_get xs c.args.place ≡ Some d) c.as_slice-drives.ensures
    (read c.as_slice-drives.result.now c.args.place d (omega (arith, c.requires.there, ap (λ (xs : List Drive). length xs) c.as_slice-drives.ensures)) c.index-drives-place.is) in
    let s = c.args.sorting.now in
    let is = c.requires.sorting in
    let origins = c.args.origins.now in
    let inside = drives_inside circuit c.requires.valid in
    let low = c.requires.inside d at in
    let run = c.requires.run d at in
    let origin : ℕ = slice_index origins (start_of circuit.nets d + c.args.at) in
    let start : c.start-start.result ≡ start_of circuit.nets d = c.start-start.ensures.value ∙ ap (λ (nets : List Net). start_of nets d) c.as_slice.ensures in
    let value : slice_index origins (c.start-start.result + c.args.at) ≡ origin = ap (λ (v : ℕ). slice_index origins (v + c.args.at)) start in
    let below = origin_below circuit inside is.once s.owners.items origins is.owners c.requires.origins c.args.place c.args.at c.args.count d at c.requires.some low run c.args.roots.now c.requires.roots in
    omega (arith, below, value, c.requires.sorting.owners_long, c.requires.sorting.numbers.total)

pub root_of-requires-clause-drive : goal.root_of-requires-clause-drive
root_of-requires-clause-drive c =
    let circuit = c.args.circuit.now in
    let d : Drive = c.index-drives-place.result in
    let at : slice_get circuit.drives c.args.place ≡ Some d = subst (λ (xs : List Drive). slice_get xs c.args.place ≡ Some d) c.as_slice-drives.ensures
    (read c.as_slice-drives.result.now c.args.place d (omega (arith, c.requires.there, ap (λ (xs : List Drive). length xs) c.as_slice-drives.ensures)) c.index-drives-place.is) in
    drive_fits_at circuit c.requires.valid c.args.place d at

pub root_of-requires-clause-owner : goal.root_of-requires-clause-owner
root_of-requires-clause-owner c =
    let circuit = c.args.circuit.now in
    let d : Drive = c.index-drives-place.result in
    let at : slice_get circuit.drives c.args.place ≡ Some d = subst (λ (xs : List Drive). slice_get xs c.args.place ≡ Some d) c.as_slice-drives.ensures
    (read c.as_slice-drives.result.now c.args.place d (omega (arith, c.requires.there, ap (λ (xs : List Drive). length xs) c.as_slice-drives.ensures)) c.index-drives-place.is) in
    let s = c.args.sorting.now in
    let is = c.requires.sorting in
    let origins = c.args.origins.now in
    let inside = drives_inside circuit c.requires.valid in
    let low = c.requires.inside d at in
    let run = c.requires.run d at in
    let origin : ℕ = slice_index origins (start_of circuit.nets d + c.args.at) in
    let start : c.start-start.result ≡ start_of circuit.nets d = c.start-start.ensures.value ∙ ap (λ (nets : List Net). start_of nets d) c.as_slice.ensures in
    let value : slice_index origins (c.start-start.result + c.args.at) ≡ origin = ap (λ (v : ℕ). slice_index origins (v + c.args.at)) start in
    let below = origin_below circuit inside is.once s.owners.items origins is.owners c.requires.origins c.args.place c.args.at c.args.count d at c.requires.some low run c.args.roots.now c.requires.roots in
    let owner : c.index-owner.result.now ≡ slice_index s.owners.items origin =
    get_or_read s.owners.items (slice_index origins (c.start-start.result + c.args.at)) c.index-owner.result.now (omega (arith, below, value, is.owners_long, is.numbers.total)) c.index-owner.ensures 0 ∙ ap (slice_index s.owners.items) value in
    let e : Drive = c.index-drives-owner.result in
    let there : slice_get circuit.drives (slice_index s.owners.items origin) ≡ Some e =
    subst (λ (i : ℕ). slice_get circuit.drives i ≡ Some e) owner
    (subst (λ (xs : List Drive). slice_get xs c.index-owner.result.now ≡ Some e) c.as_slice-drives.ensures (read c.as_slice-drives.result.now c.index-owner.result.now e (omega arith) c.index-drives-owner.is)) in
    drive_fits_at circuit c.requires.valid (slice_index s.owners.items origin) e there

pub root_of-requires-clause-inside : goal.root_of-requires-clause-inside
root_of-requires-clause-inside c =
    let circuit = c.args.circuit.now in
    let d : Drive = c.index-drives-place.result in
    let at : slice_get circuit.drives c.args.place ≡ Some d = subst (λ (xs : List Drive). slice_get xs c.args.place ≡ Some d) c.as_slice-drives.ensures
    (read c.as_slice-drives.result.now c.args.place d (omega (arith, c.requires.there, ap (λ (xs : List Drive). length xs) c.as_slice-drives.ensures)) c.index-drives-place.is) in
    c.requires.inside d at

pub root_of-requires-clause-origin : goal.root_of-requires-clause-origin
root_of-requires-clause-origin c =
    let circuit = c.args.circuit.now in
    let d : Drive = c.index-drives-place.result in
    let at : slice_get circuit.drives c.args.place ≡ Some d = subst (λ (xs : List Drive). slice_get xs c.args.place ≡ Some d) c.as_slice-drives.ensures
    (read c.as_slice-drives.result.now c.args.place d (omega (arith, c.requires.there, ap (λ (xs : List Drive). length xs) c.as_slice-drives.ensures)) c.index-drives-place.is) in
    let s = c.args.sorting.now in
    let is = c.requires.sorting in
    let origins = c.args.origins.now in
    let inside = drives_inside circuit c.requires.valid in
    let low = c.requires.inside d at in
    let run = c.requires.run d at in
    let origin : ℕ = slice_index origins (start_of circuit.nets d + c.args.at) in
    let start : c.start-start.result ≡ start_of circuit.nets d = c.start-start.ensures.value ∙ ap (λ (nets : List Net). start_of nets d) c.as_slice.ensures in
    let value : slice_index origins (c.start-start.result + c.args.at) ≡ origin = ap (λ (v : ℕ). slice_index origins (v + c.args.at)) start in
    let below = origin_below circuit inside is.once s.owners.items origins is.owners c.requires.origins c.args.place c.args.at c.args.count d at c.requires.some low run c.args.roots.now c.requires.roots in
    let owner : c.index-owner.result.now ≡ slice_index s.owners.items origin =
    get_or_read s.owners.items (slice_index origins (c.start-start.result + c.args.at)) c.index-owner.result.now (omega (arith, below, value, is.owners_long, is.numbers.total)) c.index-owner.ensures 0 ∙ ap (slice_index s.owners.items) value in
    let e : Drive = c.index-drives-owner.result in
    let there : slice_get circuit.drives (slice_index s.owners.items origin) ≡ Some e =
    subst (λ (i : ℕ). slice_get circuit.drives i ≡ Some e) owner
    (subst (λ (xs : List Drive). slice_get xs c.index-owner.result.now ≡ Some e) c.as_slice-drives.ensures (read c.as_slice-drives.result.now c.index-owner.result.now e (omega arith) c.index-drives-owner.is)) in
    let ends = origin_in circuit inside is.once s.owners.items origins is.owners c.requires.origins c.args.place c.args.at c.args.count d at c.requires.some low run c.args.roots.now c.requires.roots e there in
    omega (arith, ends.0, value)

pub root_of-requires-clause-owner_inside : goal.root_of-requires-clause-owner_inside
root_of-requires-clause-owner_inside c =
    let circuit = c.args.circuit.now in
    let d : Drive = c.index-drives-place.result in
    let at : slice_get circuit.drives c.args.place ≡ Some d = subst (λ (xs : List Drive). slice_get xs c.args.place ≡ Some d) c.as_slice-drives.ensures
    (read c.as_slice-drives.result.now c.args.place d (omega (arith, c.requires.there, ap (λ (xs : List Drive). length xs) c.as_slice-drives.ensures)) c.index-drives-place.is) in
    let s = c.args.sorting.now in
    let is = c.requires.sorting in
    let origins = c.args.origins.now in
    let inside = drives_inside circuit c.requires.valid in
    let low = c.requires.inside d at in
    let run = c.requires.run d at in
    let origin : ℕ = slice_index origins (start_of circuit.nets d + c.args.at) in
    let start : c.start-start.result ≡ start_of circuit.nets d = c.start-start.ensures.value ∙ ap (λ (nets : List Net). start_of nets d) c.as_slice.ensures in
    let value : slice_index origins (c.start-start.result + c.args.at) ≡ origin = ap (λ (v : ℕ). slice_index origins (v + c.args.at)) start in
    let below = origin_below circuit inside is.once s.owners.items origins is.owners c.requires.origins c.args.place c.args.at c.args.count d at c.requires.some low run c.args.roots.now c.requires.roots in
    let owner : c.index-owner.result.now ≡ slice_index s.owners.items origin =
    get_or_read s.owners.items (slice_index origins (c.start-start.result + c.args.at)) c.index-owner.result.now (omega (arith, below, value, is.owners_long, is.numbers.total)) c.index-owner.ensures 0 ∙ ap (slice_index s.owners.items) value in
    let e : Drive = c.index-drives-owner.result in
    let there : slice_get circuit.drives (slice_index s.owners.items origin) ≡ Some e =
    subst (λ (i : ℕ). slice_get circuit.drives i ≡ Some e) owner
    (subst (λ (xs : List Drive). slice_get xs c.index-owner.result.now ≡ Some e) c.as_slice-drives.ensures (read c.as_slice-drives.result.now c.index-owner.result.now e (omega arith) c.index-drives-owner.is)) in
    let ends = origin_in circuit inside is.once s.owners.items origins is.owners c.requires.origins c.args.place c.args.at c.args.count d at c.requires.some low run c.args.roots.now c.requires.roots e there in
    omega (arith, ends.1, value)

pub returns-else-owner-drives : goal.returns-else-owner-drives
returns-else-owner-drives c =
    let circuit = c.args.circuit.now in
    let d : Drive = c.index-drives-place.result in
    let at : slice_get circuit.drives c.args.place ≡ Some d = subst (λ (xs : List Drive). slice_get xs c.args.place ≡ Some d) c.as_slice-drives.ensures
    (read c.as_slice-drives.result.now c.args.place d (omega (arith, c.requires.there, ap (λ (xs : List Drive). length xs) c.as_slice-drives.ensures)) c.index-drives-place.is) in
    let s = c.args.sorting.now in
    let is = c.requires.sorting in
    let origins = c.args.origins.now in
    let inside = drives_inside circuit c.requires.valid in
    let low = c.requires.inside d at in
    let run = c.requires.run d at in
    let origin : ℕ = slice_index origins (start_of circuit.nets d + c.args.at) in
    let start : c.start-start.result ≡ start_of circuit.nets d = c.start-start.ensures.value ∙ ap (λ (nets : List Net). start_of nets d) c.as_slice.ensures in
    let value : slice_index origins (c.start-start.result + c.args.at) ≡ origin = ap (λ (v : ℕ). slice_index origins (v + c.args.at)) start in
    let below = origin_below circuit inside is.once s.owners.items origins is.owners c.requires.origins c.args.place c.args.at c.args.count d at c.requires.some low run c.args.roots.now c.requires.roots in
    let owner : c.index-owner.result.now ≡ slice_index s.owners.items origin =
    get_or_read s.owners.items (slice_index origins (c.start-start.result + c.args.at)) c.index-owner.result.now (omega (arith, below, value, is.owners_long, is.numbers.total)) c.index-owner.ensures 0 ∙ ap (slice_index s.owners.items) value in
    let past : length circuit.drives ≤ slice_index s.owners.items origin = omega (arith, c.if-owner-drives.false, owner, ap (λ (xs : List Drive). length xs) c.as_slice-drives.ensures) in
    run_without circuit inside is.once s.owners.items origins is.owners c.requires.origins c.args.place c.args.at c.args.count d at c.requires.some low run c.args.roots.now c.requires.roots past

pub returns-in_ok-push : goal.returns-in_ok-push
returns-in_ok-push c =
    let circuit = c.args.circuit.now in
    let d : Drive = c.index-drives-place.result in
    let at : slice_get circuit.drives c.args.place ≡ Some d = subst (λ (xs : List Drive). slice_get xs c.args.place ≡ Some d) c.as_slice-drives.ensures
    (read c.as_slice-drives.result.now c.args.place d (omega (arith, c.requires.there, ap (λ (xs : List Drive). length xs) c.as_slice-drives.ensures)) c.index-drives-place.is) in
    let s = c.args.sorting.now in
    let is = c.requires.sorting in
    let origins = c.args.origins.now in
    let inside = drives_inside circuit c.requires.valid in
    let low = c.requires.inside d at in
    let run = c.requires.run d at in
    let origin : ℕ = slice_index origins (start_of circuit.nets d + c.args.at) in
    let start : c.start-start.result ≡ start_of circuit.nets d = c.start-start.ensures.value ∙ ap (λ (nets : List Net). start_of nets d) c.as_slice.ensures in
    let value : slice_index origins (c.start-start.result + c.args.at) ≡ origin = ap (λ (v : ℕ). slice_index origins (v + c.args.at)) start in
    let below = origin_below circuit inside is.once s.owners.items origins is.owners c.requires.origins c.args.place c.args.at c.args.count d at c.requires.some low run c.args.roots.now c.requires.roots in
    let owner : c.index-owner.result.now ≡ slice_index s.owners.items origin =
    get_or_read s.owners.items (slice_index origins (c.start-start.result + c.args.at)) c.index-owner.result.now (omega (arith, below, value, is.owners_long, is.numbers.total)) c.index-owner.ensures 0 ∙ ap (slice_index s.owners.items) value in
    let e : Drive = c.index-drives-owner.result in
    let there : slice_get circuit.drives (slice_index s.owners.items origin) ≡ Some e =
    subst (λ (i : ℕ). slice_get circuit.drives i ≡ Some e) owner
    (subst (λ (xs : List Drive). slice_get xs c.index-owner.result.now ≡ Some e) c.as_slice-drives.ensures (read c.as_slice-drives.result.now c.index-owner.result.now e (omega arith) c.index-drives-owner.is)) in
    let r : Drive = c.in_ok-root_of.field-0 in
    let made = c.in_ok-root_of.ensures in
    subst (λ (roots : List Drive). AreRootsOf circuit c.args.place (c.args.at + c.args.count) roots) (sym c.in_ok-push.ensures.ok)
    (run_with circuit inside is.once s.owners.items origins is.owners c.requires.origins c.args.place c.args.at c.args.count d at c.requires.some low run c.args.roots.now c.requires.roots e there
    r made.net made.at made.width made.fits
    (subst (λ (v : ℕ). (j : ℕ) → j < c.args.count → root_source r.by j ≡ root_source e.by (v - start_of circuit.nets e + j)) value made.source))
