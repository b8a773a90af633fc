use Rattle.std.proofs.Common.{◌≡◌, ℕ, ◌+◌, List, length, replicate, sym, ◌∙◌, ap, subst, arith, cond, Some, nat_le, nat_lt}
use Rattle.std.proofs.lemmas.List.{get_or-replicate}
use Rattle.std.specs.Prelude.{slice_get, slice_index, ◌&&◌, ◌==◌}
use Rattle.circuit.specs.declared.netlist.Drive.{Drive}
use Rattle.circuit.specs.declared.netlist.Net.{Net}
use Rattle.driver_check.specs.Numbers.{IsInsideNet, start_of}
use Rattle.driver_check.specs.Owners.{AreOwners}
use Rattle.driver_check.proofs.Places.{read}
use Rattle.driver_check.proofs.Fitting.{drives_inside}
use Rattle.driver_check.proofs.Owned.{no_owners, owners_more}
use Rattle.driver_check.proofs.drivers.owners.Goals as goal

pub loop-place-init : goal.loop-place-init
loop-place-init c =
    let nobody = length c.as_slice-drives.result.now in
    let items : c.in_ok-owners.owners.items ≡ replicate c.args.numbering.now.bits nobody = c.in_ok-owners.ensures.items_if_clones_equal (λ y e. e) in
    let drives : nobody ≡ length c.args.circuit.now.drives = ap (λ (xs : List Drive). length xs) c.as_slice-drives.ensures in
    record {
      len = omega (arith, c.in_ok-owners.ensures.len);
      owners = no_owners c.args.circuit.now c.in_ok-owners.owners.items (λ v lt.
          ap (λ (xs : List ℕ). slice_index xs v) items ∙ get_or-replicate c.args.numbering.now.bits v nobody 0 (omega (arith, lt, c.requires.numbers.total)) ∙ drives);
    }

pub start-first-requires-clause-inside : goal.start-first-requires-clause-inside
start-first-requires-clause-inside c =
    let d : Drive = c.index-drives-place.result in
    let drives : c.as_slice-drives.result.now ≡ c.args.circuit.now.drives = c.as_slice-drives.ensures in
    let at : slice_get c.args.circuit.now.drives c.loop-place.place ≡ Some d =
    subst (λ (xs : List Drive). slice_get xs c.loop-place.place ≡ Some d) drives (read c.as_slice-drives.result.now c.loop-place.place d (omega arith) c.index-drives-place.is) in
    subst (λ (nets : List Net). IsInsideNet nets d) (sym c.as_slice.ensures) (drives_inside c.args.circuit.now c.requires.valid c.loop-place.place d at)

pub loop-place-preserved : goal.loop-place-preserved
loop-place-preserved c =
    let d : Drive = c.index-drives-place.result in
    let owners = c.loop-place.owners.items in
    let after = c.claim.new.owners.items in
    let drives : c.as_slice-drives.result.now ≡ c.args.circuit.now.drives = c.as_slice-drives.ensures in
    let at : slice_get c.args.circuit.now.drives c.loop-place.place ≡ Some d =
    subst (λ (xs : List Drive). slice_get xs c.loop-place.place ≡ Some d) drives (read c.as_slice-drives.result.now c.loop-place.place d (omega arith) c.index-drives-place.is) in
    let start : c.start-first.result ≡ start_of c.args.circuit.now.nets d = c.start-first.ensures.value ∙ ap (λ (nets : List Net). start_of nets d) c.as_slice.ensures in
    let nobody : length c.as_slice-drives.result.now ≡ length c.args.circuit.now.drives = ap (λ (xs : List Drive). length xs) drives in
    let by_start = subst (λ (first : ℕ). (v : ℕ) → slice_index after v ≡ cond ((nat_le first v && nat_lt v (first + d.width)) && slice_index owners v == length c.as_slice-drives.result.now) c.loop-place.place (slice_index owners v)) start c.claim.ensures.owners in
    let by_nobody = subst (λ (none : ℕ). (v : ℕ) → slice_index after v ≡ cond ((nat_le (start_of c.args.circuit.now.nets d) v && nat_lt v (start_of c.args.circuit.now.nets d + d.width)) && slice_index owners v == none) c.loop-place.place (slice_index owners v)) nobody by_start in
    record {
      len = c.claim.ensures.length ∙ c.loop-place.invariant.len;
      owners = owners_more c.args.circuit.now (drives_inside c.args.circuit.now c.requires.valid) c.loop-place.place d at owners after c.loop-place.invariant.owners by_nobody;
    }

pub returns : goal.returns
returns c =
    let end : c.loop-place.place ≡ length c.args.circuit.now.drives = omega (arith, ap (λ (xs : List Drive). length xs) c.as_slice-drives.ensures) in
    (c.loop-place.invariant.len, subst (λ (i : ℕ). AreOwners c.args.circuit.now i c.loop-place.owners.items) end c.loop-place.invariant.owners)
