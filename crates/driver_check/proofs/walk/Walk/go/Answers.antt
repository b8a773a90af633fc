use Rattle.std.proofs.Common.{◌≡◌, ℕ, List, ◌++◌, ◌∷◌, [], length, set, sym, subst, arith, Some}
use Rattle.std.specs.Prelude.{slice_get}
use Rattle.std.proofs.lemmas.List.{get_or_read}
use Rattle.circuit.specs.declared.netlist.Drive.{Drive}
use Rattle.driver_check.specs.Depends.{Bit}
use Rattle.driver_check.specs.Numbers.{IsIn, start_of}
use Rattle.driver_check.specs.Invariants.{IsWalking}
use Rattle.driver_check.proofs.Fitting.{drives_inside}
use Rattle.driver_check.proofs.Owned.{covered_is_bit}
use Rattle.driver_check.proofs.Nexts.{owner_in}
use Rattle.driver_check.proofs.Walked.{walked}
use Rattle.driver_check.proofs.walk.Walk.go.Goals as goal

pub bit_of-bit-requires-clause-there : goal.bit_of-bit-requires-clause-there
bit_of-bit-requires-clause-there c =
    let s = c.args.sorting.now in
    let v = c.args.self.now.number in
    let place = get_or_read s.owners.items v c.index-place.result.now (omega (arith, c.requires.walking.inside, c.requires.sorting.owners_long)) c.index-place.ensures 0 in
    let o = owner_in c.args.circuit.now c.requires.valid s c.requires.sorting v (omega (arith, c.requires.walking.inside, c.requires.sorting.numbers.total)) c.requires.walking.here in
    omega (arith, o.0, place)

pub bit_of-bit-requires-clause-inside : goal.bit_of-bit-requires-clause-inside
bit_of-bit-requires-clause-inside c =
    let s = c.args.sorting.now in
    let v = c.args.self.now.number in
    let place = get_or_read s.owners.items v c.index-place.result.now (omega (arith, c.requires.walking.inside, c.requires.sorting.owners_long)) c.index-place.ensures 0 in
    let o = owner_in c.args.circuit.now c.requires.valid s c.requires.sorting v (omega (arith, c.requires.walking.inside, c.requires.sorting.numbers.total)) c.requires.walking.here in
    subst (λ (p : ℕ). (d : Drive) → slice_get c.args.circuit.now.drives p ≡ Some d → IsIn (start_of c.args.circuit.now.nets d) d.width v) (sym place) o.1

pub returns-clause-walking : goal.returns-clause-walking
returns-clause-walking c =
    let circuit = c.args.circuit.now in
    let s = c.args.sorting.now in
    let walk = c.args.self.now.bits.items in
    let x : Bit = (c.bit_of-bit.result.0, c.bit_of-bit.result.1) in
    let b = covered_is_bit circuit (drives_inside circuit c.requires.valid) c.index-place.result.now x c.bit_of-bit.ensures.covers in
    let long : c.len.result ≡ length walk = omega (arith, c.len.ensures) in
    let small = c.args.self.now.bits.small in
    let ok = c.args.self.now.bits.ok in
    let items : c.push.new.self.items ≡ walk ++ x ∷ [] = c.in_ok-push.ensures.items in
    subst (λ (xs : List Bit). IsWalking circuit s xs (set c.args.self.now.seen.items c.args.self.now.number c.len.result) c.next-self.result) (sym items)
    (subst (λ (n : ℕ). IsWalking circuit s (walk ++ x ∷ []) (set c.args.self.now.seen.items c.args.self.now.number n) c.next-self.result) (sym long)
    (walked circuit c.requires.valid s c.requires.sorting walk c.args.self.now.seen.items c.args.self.now.number c.requires.walking c.requires.new (omega (arith, small, ok.0, ok.1)) x b c.bit_of-bit.ensures.number
    c.next-self.result c.next-self.ensures.below c.next-self.ensures.stuck
    (λ y d to. c.next-self.ensures.next x y b d c.bit_of-bit.ensures.number to)))
