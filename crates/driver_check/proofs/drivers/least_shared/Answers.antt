use Rattle.std.proofs.Common.{◌≡◌, ◌≢◌, ℕ, ◌≤◌, ◌⊎◌, List, length, sym, ◌∙◌, ap, subst, arith, Some}
use Rattle.std.specs.Prelude.{slice_get, slice_index}
use Rattle.circuit.specs.declared.netlist.Drive.{Drive}
use Rattle.circuit.specs.declared.netlist.Net.{Net}
use Rattle.driver_check.specs.Numbers.{IsIn, IsInsideNet, start_of}
use Rattle.driver_check.specs.Invariants.{IsLeastShared}
use Rattle.driver_check.proofs.Places.{read}
use Rattle.driver_check.proofs.Fitting.{drives_inside}
use Rattle.driver_check.proofs.Owned.{shared_more}
use Rattle.driver_check.proofs.drivers.least_shared.Goals as goal

pub start-first-requires-clause-inside : goal.start-first-requires-clause-inside
start-first-requires-clause-inside c =
    let d : Drive = c.drive-item.result in
    let drives : c.as_slice-drive-items.result.now ≡ c.args.circuit.now.drives = c.as_slice-drive-items.ensures in
    let at : slice_get c.args.circuit.now.drives c.loop-place.place ≡ Some d =
    subst (λ (xs : List Drive). slice_get xs c.loop-place.place ≡ Some d) drives (read c.as_slice-drive-items.result.now c.loop-place.place d (omega arith) c.drive-item.is) in
    subst (λ (nets : List Net). IsInsideNet nets d) (sym c.as_slice.ensures) (drives_inside c.args.circuit.now c.requires.valid c.loop-place.place d at)

pub loop-place-preserved : goal.loop-place-preserved
loop-place-preserved c =
    let d : Drive = c.drive-item.result in
    let drives : c.as_slice-drive-items.result.now ≡ c.args.circuit.now.drives = c.as_slice-drive-items.ensures in
    let at : slice_get c.args.circuit.now.drives c.loop-place.place ≡ Some d =
    subst (λ (xs : List Drive). slice_get xs c.loop-place.place ≡ Some d) drives (read c.as_slice-drive-items.result.now c.loop-place.place d (omega arith) c.drive-item.is) in
    let start : c.start-first.result ≡ start_of c.args.circuit.now.nets d = c.start-first.ensures.value ∙ ap (λ (nets : List Net). start_of nets d) c.as_slice.ensures in
    let here = shared_more c.args.circuit.now (drives_inside c.args.circuit.now c.requires.valid) c.args.owners.now c.requires.owners c.loop-place.place d at
    c.args.numbering.now.bits c.loop-place.least c.shared_within-least.result c.loop-place.invariant c.shared_within-least.ensures.most in
    here
    (subst (λ (first : ℕ). (v : ℕ) → IsIn first d.width v → slice_index c.args.owners.now v ≢ c.loop-place.place → c.shared_within-least.result ≤ v) start c.shared_within-least.ensures.below)
    (subst (λ (first : ℕ). (c.shared_within-least.result ≡ c.loop-place.least) ⊎ (IsIn first d.width c.shared_within-least.result × (slice_index c.args.owners.now c.shared_within-least.result ≢ c.loop-place.place))) start c.shared_within-least.ensures.is)

pub returns : goal.returns
returns c =
    let end : c.loop-place.place ≡ length c.args.circuit.now.drives = omega (arith, ap (λ (xs : List Drive). length xs) c.as_slice-drive-items.ensures) in
    subst (λ (i : ℕ). IsLeastShared c.args.circuit.now i c.loop-place.least c.args.numbering.now.bits) end c.loop-place.invariant
