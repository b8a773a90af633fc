use Rattle.std.proofs.Common.{◌≡◌, ℕ, ◌-◌, ◌≤◌, List, length, sym, ◌∙◌, ap, subst, arith, Some, Option}
use Rattle.std.specs.Prelude.{slice_get, slice_index}
use Rattle.circuit.specs.declared.netlist.Drive.{Drive}
use Rattle.circuit.specs.declared.netlist.Net.{Net}
use Rattle.driver_check.specs.Numbers.{IsInsideNet, bit_number, start_of}
use Rattle.driver_check.specs.Owners.{IsOwner}
use Rattle.driver_check.specs.Vertices.{by_span, drive_span}
use Rattle.driver_check.proofs.Places.{read}
use Rattle.driver_check.proofs.Numbered.{bit_at_number}
use Rattle.driver_check.proofs.Fitting.{drive_fits_at, drives_inside}
use Rattle.driver_check.proofs.Owned.{covers_in, nobody_drive, offset_is, owner_drive, owner_has}
use Rattle.driver_check.proofs.rows.bit_row.Goals as goal

pub returns-then-place-drives : goal.returns-then-place-drives
returns-then-place-drives c = λ x bit is.
    let circuit = c.args.circuit.now in
    let owner = slice_index c.args.owners.now c.args.number in
    let owns : IsOwner circuit (length circuit.drives) x owner = subst (λ (v : ℕ). IsOwner circuit (length circuit.drives) x (slice_index c.args.owners.now v)) is (c.requires.owners x bit) in
    let past : length circuit.drives ≤ owner = omega (arith, c.if-place-drives.true, ap (λ (xs : List Drive). length xs) c.as_slice-drives.ensures) in
    sym (ap (λ (m : Option Drive). drive_span circuit m x.1) (nobody_drive circuit x owner owns past))

pub start-start-requires-clause-inside : goal.start-start-requires-clause-inside
start-start-requires-clause-inside c =
    let d : Drive = c.index-drives-place.result in
    let place = slice_index c.args.owners.now c.args.number in
    let at : slice_get c.args.circuit.now.drives place ≡ Some d = subst (λ (xs : List Drive). slice_get xs place ≡ Some d) c.as_slice-drives.ensures (read c.as_slice-drives.result.now place d (omega arith) c.index-drives-place.is) in
    subst (λ (nets : List Net). IsInsideNet nets d) (sym c.as_slice.ensures) (drives_inside c.args.circuit.now c.requires.valid place d at)

pub overflow_sub-number : goal.overflow_sub-number
overflow_sub-number c =
    let circuit = c.args.circuit.now in
    let d : Drive = c.index-drives-place.result in
    let place = slice_index c.args.owners.now c.args.number in
    let at : slice_get circuit.drives place ≡ Some d = subst (λ (xs : List Drive). slice_get xs place ≡ Some d) c.as_slice-drives.ensures (read c.as_slice-drives.result.now place d (omega arith) c.index-drives-place.is) in
    let x = bit_at_number circuit.nets c.args.number (omega (arith, c.requires.there, c.requires.numbers.total)) in
    let owns : IsOwner circuit (length circuit.drives) x.0 place = subst (λ (v : ℕ). IsOwner circuit (length circuit.drives) x.0 (slice_index c.args.owners.now v)) x.2 (c.requires.owners x.0 x.1) in
    let h = covers_in circuit d x.0 (owner_has circuit x.0 place d owns at) in
    let start : c.start-start.result ≡ start_of circuit.nets d = c.start-start.ensures.value ∙ ap (λ (nets : List Net). start_of nets d) c.as_slice.ensures in
    omega (arith, h.0, start, x.2)

pub drive_span-requires-clause-fits : goal.drive_span-requires-clause-fits
drive_span-requires-clause-fits c =
    let d : Drive = c.index-drives-place.result in
    let place = slice_index c.args.owners.now c.args.number in
    let at : slice_get c.args.circuit.now.drives place ≡ Some d = subst (λ (xs : List Drive). slice_get xs place ≡ Some d) c.as_slice-drives.ensures (read c.as_slice-drives.result.now place d (omega arith) c.index-drives-place.is) in
    drive_fits_at c.args.circuit.now c.requires.valid place d at

pub drive_span-requires-clause-offset : goal.drive_span-requires-clause-offset
drive_span-requires-clause-offset c =
    let circuit = c.args.circuit.now in
    let d : Drive = c.index-drives-place.result in
    let place = slice_index c.args.owners.now c.args.number in
    let at : slice_get circuit.drives place ≡ Some d = subst (λ (xs : List Drive). slice_get xs place ≡ Some d) c.as_slice-drives.ensures (read c.as_slice-drives.result.now place d (omega arith) c.index-drives-place.is) in
    let x = bit_at_number circuit.nets c.args.number (omega (arith, c.requires.there, c.requires.numbers.total)) in
    let owns : IsOwner circuit (length circuit.drives) x.0 place = subst (λ (v : ℕ). IsOwner circuit (length circuit.drives) x.0 (slice_index c.args.owners.now v)) x.2 (c.requires.owners x.0 x.1) in
    let h = covers_in circuit d x.0 (owner_has circuit x.0 place d owns at) in
    let start : c.start-start.result ≡ start_of circuit.nets d = c.start-start.ensures.value ∙ ap (λ (nets : List Net). start_of nets d) c.as_slice.ensures in
    omega (arith, h.0, h.1, start, x.2)

pub returns : goal.returns
returns c = λ x bit is.
    let circuit = c.args.circuit.now in
    let d : Drive = c.index-drives-place.result in
    let place = slice_index c.args.owners.now c.args.number in
    let at : slice_get circuit.drives place ≡ Some d = subst (λ (xs : List Drive). slice_get xs place ≡ Some d) c.as_slice-drives.ensures (read c.as_slice-drives.result.now place d (omega arith) c.index-drives-place.is) in
    let owns : IsOwner circuit (length circuit.drives) x place = subst (λ (v : ℕ). IsOwner circuit (length circuit.drives) x (slice_index c.args.owners.now v)) is (c.requires.owners x bit) in
    let start : c.start-start.result ≡ start_of circuit.nets d = c.start-start.ensures.value ∙ ap (λ (nets : List Net). start_of nets d) c.as_slice.ensures in
    let offset : c.args.number - c.start-start.result ≡ x.1 - d.at =
    ap (λ (v : ℕ). v - c.start-start.result) (sym is) ∙ ap (λ (v : ℕ). bit_number circuit.nets x - v) start ∙ offset_is circuit x d (owner_has circuit x place d owns at) in
    c.drive_span.ensures ∙ ap (λ (i : ℕ). by_span circuit d.by i) offset ∙ sym (ap (λ (m : Option Drive). drive_span circuit m x.1) (owner_drive circuit x place d owns at))
