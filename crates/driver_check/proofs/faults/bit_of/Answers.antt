use Rattle.std.proofs.Common.{◌≡◌, ◌+◌, ◌-◌, List, length, ap, subst, arith, ◌∙◌, refl, Some}
use Rattle.std.specs.Prelude.{slice_get}
use Rattle.std.proofs.lemmas.List.{get_or_read}
use Rattle.circuit.specs.declared.netlist.Drive.{Drive}
use Rattle.driver_check.specs.Numbers.{before, width_of}
use Rattle.driver_check.proofs.Places.{read, within}
use Rattle.driver_check.proofs.Fitting.{drives_inside, net_width}
use Rattle.driver_check.proofs.Owned.{covers_from}
use Rattle.driver_check.proofs.faults.bit_of.Goals as goal

pub index-requires : goal.index-requires
index-requires c =
    let d : Drive = c.index-as_slice-place.result in
    let at : slice_get c.args.circuit.now.drives c.args.place ≡ Some d =
    subst (λ (xs : List Drive). slice_get xs c.args.place ≡ Some d) c.as_slice.ensures (read c.as_slice.result.now c.args.place d (omega (arith, c.requires.there, ap (λ (xs : List Drive). length xs) c.as_slice.ensures)) c.index-as_slice-place.is) in
    let n = drives_inside c.args.circuit.now c.requires.valid c.args.place d at in
    let lt = within c.args.circuit.now.nets d.net n.0 n.1 in
    omega (arith, lt, c.requires.numbers.long)

pub overflow_sub-bit : goal.overflow_sub-bit
overflow_sub-bit c =
    let d : Drive = c.index-as_slice-place.result in
    let at : slice_get c.args.circuit.now.drives c.args.place ≡ Some d =
    subst (λ (xs : List Drive). slice_get xs c.args.place ≡ Some d) c.as_slice.ensures (read c.as_slice.result.now c.args.place d (omega (arith, c.requires.there, ap (λ (xs : List Drive). length xs) c.as_slice.ensures)) c.index-as_slice-place.is) in
    let n = drives_inside c.args.circuit.now c.requires.valid c.args.place d at in
    let lt = within c.args.circuit.now.nets d.net n.0 n.1 in
    let first = get_or_read c.args.numbering.now.firsts.items d.net c.index.result.now (omega (arith, lt, c.requires.numbers.long)) c.index.ensures 0 ∙ c.requires.numbers.first d.net lt in
    let h = c.requires.inside d at in
    omega (arith, first, h.0)

pub overflow_cast-result : goal.overflow_cast-result
overflow_cast-result c =
    let d : Drive = c.index-as_slice-place.result in
    let at : slice_get c.args.circuit.now.drives c.args.place ≡ Some d =
    subst (λ (xs : List Drive). slice_get xs c.args.place ≡ Some d) c.as_slice.ensures (read c.as_slice.result.now c.args.place d (omega (arith, c.requires.there, ap (λ (xs : List Drive). length xs) c.as_slice.ensures)) c.index-as_slice-place.is) in
    let n = drives_inside c.args.circuit.now c.requires.valid c.args.place d at in
    let lt = within c.args.circuit.now.nets d.net n.0 n.1 in
    let first = get_or_read c.args.numbering.now.firsts.items d.net c.index.result.now (omega (arith, lt, c.requires.numbers.long)) c.index.ensures 0 ∙ c.requires.numbers.first d.net lt in
    let h = c.requires.inside d at in
    let small = net_width c.args.circuit.now c.requires.valid d.net n.0 n.1 in
    omega (arith, first, h.0, h.1, n.2, small)

pub returns-clause-number : goal.returns-clause-number
returns-clause-number c =
    let d : Drive = c.index-as_slice-place.result in
    let at : slice_get c.args.circuit.now.drives c.args.place ≡ Some d =
    subst (λ (xs : List Drive). slice_get xs c.args.place ≡ Some d) c.as_slice.ensures (read c.as_slice.result.now c.args.place d (omega (arith, c.requires.there, ap (λ (xs : List Drive). length xs) c.as_slice.ensures)) c.index-as_slice-place.is) in
    let n = drives_inside c.args.circuit.now c.requires.valid c.args.place d at in
    let lt = within c.args.circuit.now.nets d.net n.0 n.1 in
    let first = get_or_read c.args.numbering.now.firsts.items d.net c.index.result.now (omega (arith, lt, c.requires.numbers.long)) c.index.ensures 0 ∙ c.requires.numbers.first d.net lt in
    let h = c.requires.inside d at in
    let e : before width_of c.args.circuit.now.nets d.net + (c.args.number - c.index.result.now) ≡ c.args.number = omega (arith, first, h.0) in
    e

pub returns-clause-covers : goal.returns-clause-covers
returns-clause-covers c =
    let d : Drive = c.index-as_slice-place.result in
    let at : slice_get c.args.circuit.now.drives c.args.place ≡ Some d =
    subst (λ (xs : List Drive). slice_get xs c.args.place ≡ Some d) c.as_slice.ensures (read c.as_slice.result.now c.args.place d (omega (arith, c.requires.there, ap (λ (xs : List Drive). length xs) c.as_slice.ensures)) c.index-as_slice-place.is) in
    let n = drives_inside c.args.circuit.now c.requires.valid c.args.place d at in
    let lt = within c.args.circuit.now.nets d.net n.0 n.1 in
    let first = get_or_read c.args.numbering.now.firsts.items d.net c.index.result.now (omega (arith, lt, c.requires.numbers.long)) c.index.ensures 0 ∙ c.requires.numbers.first d.net lt in
    let h = c.requires.inside d at in
    (d, at, covers_from d d.net (c.args.number - c.index.result.now) refl (omega (arith, first, h.0)) (omega (arith, first, h.0, h.1)))
