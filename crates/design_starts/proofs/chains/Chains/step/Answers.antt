use Rattle.std.proofs.Common.{◌≡◌, ℕ, List, [], ◌∷◌, ◌++◌, length, set, refl, sym, ◌∙◌, ap, subst, arith, Some}
use Rattle.std.specs.Prelude.{slice_get}
use Rattle.circuit.specs.declared.netlist.Net.{Net}
use Rattle.driver_check.specs.Depends.{Bit}
use Rattle.driver_check.specs.Numbers.{IsBit, bit_number}
use Rattle.driver_check.proofs.Numbered.{bit_below}
use Rattle.driver_check.proofs.Places.{within}
use Rattle.design_starts.specs.Chains.{IsOnWay, IsWalking, one_wire}
use Rattle.design_starts.specs.declared.taken.Taken.{Taken}
use Rattle.design_starts.specs.declared.taken.Taken.TheVariants as taken
use Rattle.design_starts.proofs.Walks.{no_wire, way_end, way_on, way_outside, wires_fewer}
use Rattle.design_starts.proofs.chains.Chains.step.Goals as goal

pub returns-in_default-clause-way : goal.returns-in_default-clause-way
returns-in_default-clause-way c = λ from w.
    way_outside c.args.circuit.now from c.args.self.now.table.items c.args.path.now.items c.args.net c.args.bit w
    (subst (λ (nets : List Net). IsBit nets (c.args.net, c.args.bit) → ⊥) c.as_slice.ensures c.in_default.ensures)

pub entry_at-found-requires : goal.entry_at-found-requires
entry_at-found-requires c =
    let found = subst (λ (nets : List Net). IsBit nets (c.args.net, c.args.bit) × (c.in-Some.place ≡ bit_number nets (c.args.net, c.args.bit))) c.as_slice.ensures c.in-Some.ensures in
    omega (arith, bit_below c.args.circuit.now.nets (c.args.net, c.args.bit) found.0, found.1, c.requires.long, c.requires.places.total, ap (λ (xs : List Taken). length xs) c.deref.ensures.value)

pub index_mut-requires : goal.index_mut-requires
index_mut-requires c =
    let h = within c.deref.result.now c.in-Some.place c.entry_at-found.result c.entry_at-found.ensures in
    omega (arith, h, c.deref.ensures.len)

pub returns-in_ok-push-clause-fewer : goal.returns-in_ok-push-clause-fewer
returns-in_ok-push-clause-fewer c =
    let table = c.args.self.now.table.items in
    let is = sym (ap (λ (xs : List Taken). slice_get xs c.in-Some.place) c.deref.ensures.value) ∙ c.in-Bit.ensures in
    let h = wires_fewer table c.in-Some.place c.in-Bit.field-0 c.in-Bit.field-1 is in
    omega (arith, h, ap one_wire c.in-Bit.is)

pub returns-in_ok-push-clause-way : goal.returns-in_ok-push-clause-way
returns-in_ok-push-clause-way c = λ from w.
    let circuit = c.args.circuit.now in
    let table = c.args.self.now.table.items in
    let path = c.args.path.now.items in
    let place = c.in-Some.place in
    let at : Bit = (c.args.net, c.args.bit) in
    let end : Bit = (c.in-Bit.field-0, c.in-Bit.field-1) in
    let found = subst (λ (nets : List Net). IsBit nets at × (place ≡ bit_number nets at)) c.as_slice.ensures c.in-Some.ensures in
    let stands : slice_get table place ≡ Some (taken.Bit c.in-Bit.field-0 c.in-Bit.field-1) =
    sym (ap (λ (xs : List Taken). slice_get xs place) c.deref.ensures.value) ∙ c.in-Bit.ensures in
    let is = subst (λ (p : ℕ). slice_get table p ≡ Some (taken.Bit c.in-Bit.field-0 c.in-Bit.field-1)) found.1 stands in
    let on = way_on circuit from table path at c.in-Bit.field-0 c.in-Bit.field-1 w found.0 is in
    subst (λ (t : Taken). IsOnWay circuit from (set table place taken.Nothing) c.push.new.self.items t) (sym c.in-Bit.is)
    (subst (λ (xs : List ℕ). IsWalking circuit from (set table place taken.Nothing) xs end) (sym c.in_ok-push.ensures.items)
    (subst (λ (p : ℕ). IsWalking circuit from (set table p taken.Nothing) (path ++ p ∷ []) end) (sym found.1) on))

pub returns-in_default-found : goal.returns-in_default-found
returns-in_default-found c =
    let table = c.args.self.now.table.items in
    let at : Bit = (c.args.net, c.args.bit) in
    let t = c.entry_at-found.result in
    let found = subst (λ (nets : List Net). IsBit nets at × (c.in-Some.place ≡ bit_number nets at)) c.as_slice.ensures c.in-Some.ensures in
    let stands : slice_get table c.in-Some.place ≡ Some t = sym (ap (λ (xs : List Taken). slice_get xs c.in-Some.place) c.deref.ensures.value) ∙ c.entry_at-found.ensures in
    let is = subst (λ (p : ℕ). slice_get table p ≡ Some t) found.1 stands in
    let none = no_wire t c.in_default-found.not-Bit in
    record {
      places = refl;
      long = refl;
      fewer = omega (arith, none);
      way = λ from w. way_end c.args.circuit.now from table c.args.path.now.items at w found.0 t c.in_default-found.not-Bit is;
    }
