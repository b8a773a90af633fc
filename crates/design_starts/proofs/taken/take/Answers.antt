use Rattle.std.proofs.Common.{◌≡◌, ◌+◌, ◌<◌, List, length, set, ◌∙◌, ap, arith, rules, length-set}
use Rattle.std.specs.Prelude.{slice_get}
use Rattle.driver_check.specs.Numbers.{bit_number}
use Rattle.driver_check.proofs.Numbered.{bit_below}
use Rattle.design_starts.specs.Chains.{taken_by}
use Rattle.design_starts.specs.declared.taken.Taken.{Taken}
use Rattle.design_starts.proofs.Takes.{take_off, take_on}
use Rattle.design_starts.proofs.taken.take.Goals as goal
use Rattle.design_starts.proofs.taken.take.Goals.{in-Some, in_default}

pub index_mut-requires : goal.index_mut-requires
index_mut-requires c =
    let found = c.in-Some.ensures in
    let inside : c.in-Some.place < length c.loop-i.table.items =
    omega (arith, bit_below c.args.nets.now (c.args.drive.now.net, c.args.drive.now.at + c.loop-i.i) found.0, found.1, c.requires.long, c.requires.places.total, c.loop-i.invariant.long) in
    search (rules, inside)

pub loop-i-preserved : goal.loop-i-preserved
loop-i-preserved c = elim c.match-place.branch [
  | in-Some w ↦
      (let nets = c.args.nets.now in
      let d = c.args.drive.now in
      let table = c.loop-i.table.items in
      let i = c.loop-i.i in
      let found = w.in-Some.ensures in
      let place = w.in-Some.place in
      let inside : place < length table = omega (arith, bit_below nets (d.net, d.at + i) found.0, found.1, c.requires.long, c.requires.places.total, c.loop-i.invariant.long) in
      let items : c.match-place.table.items ≡ set table place (taken_by d.by i) = ap (λ t. t.items) w.table-is ∙ ap (set table place) w.taken_by.ensures in
      record {
        long = ap (λ (xs : List Taken). length xs) items ∙ length-set table place (taken_by d.by i) ∙ c.loop-i.invariant.long;
        taken = λ x b. ap (λ (xs : List Taken). slice_get xs (bit_number nets x)) items ∙ take_on nets d i table c.args.table.now.items c.loop-i.invariant.taken place found.0 found.1 inside x b;
      })
  | in_default w ↦
      (let nets = c.args.nets.now in
      let d = c.args.drive.now in
      let table = c.loop-i.table.items in
      let items : c.match-place.table.items ≡ table = ap (λ t. t.items) w.table-is in
      record {
        long = ap (λ (xs : List Taken). length xs) items ∙ c.loop-i.invariant.long;
        taken = λ x b. ap (λ (xs : List Taken). slice_get xs (bit_number nets x)) items ∙ take_off nets d c.loop-i.i table c.args.table.now.items c.loop-i.invariant.taken w.in_default.ensures x b;
      })
]
