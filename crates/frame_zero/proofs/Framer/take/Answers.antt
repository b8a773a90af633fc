use Rattle.std.proofs.Common.{◌≡◌, ℕ, List, ◌+◌, length, refl, sym, ap, ◌∙◌, arith, slice_get}
use Rattle.frame_zero.specs.Packets.{packets}
use Rattle.frame_zero.proofs.Search.{searched, found, first_open, taken, first_too_long}
use Rattle.frame_zero.proofs.Framer.take.Goals as goal

pub invariant_of-self-in-None : goal.invariant_of-self-in-None
invariant_of-self-in-None c =
    let f = c.self.inside in
    let stop : ℕ = f.start + c.min-room.result in
    (omega arith, omega arith, omega arith, searched f.bytes.items c.deref.result.now f.start f.seen stop c.deref.ensures.value (omega arith) (omega arith) c.self.invariant.3 c.in-None.ensures)

pub returns-then-room-gt-MAX_PACKET : goal.returns-then-room-gt-MAX_PACKET
returns-then-room-gt-MAX_PACKET c =
    let f = c.self.inside in
    let stop : ℕ = f.start + c.min-room.result in
    let clear = searched f.bytes.items c.deref.result.now f.start f.seen stop c.deref.ensures.value (omega arith) (omega arith) c.self.invariant.3 c.in-None.ensures in (
      (refl, (λ _. tt), c.self.view_is),
      record {
        first = sym (ap (λ z. slice_get (packets z) 0) (sym c.self.view_is) ∙ ap (λ z. slice_get z 0) (first_too_long f.bytes.items f.start stop (omega arith) (omega arith) clear (omega arith)));
        left = tt;
      },
    )

pub returns-else-room-gt-MAX_PACKET : goal.returns-else-room-gt-MAX_PACKET
returns-else-room-gt-MAX_PACKET c =
    let f = c.self.inside in
    let stop : ℕ = f.start + c.min-room.result in
    let clear = searched f.bytes.items c.deref.result.now f.start f.seen stop c.deref.ensures.value (omega arith) (omega arith) c.self.invariant.3 c.in-None.ensures in
    let all : stop ≡ length f.bytes.items = omega arith in (
      (refl, (λ _. tt), c.self.view_is),
      record {
        first = sym (ap (λ z. slice_get (packets z) 0) (sym c.self.view_is) ∙ ap (λ z. slice_get z 0) (first_open f.bytes.items f.start (omega arith) (rw all at clear) (omega arith)));
        left = tt;
      },
    )

pub returns-in-Some : goal.returns-in-Some
returns-in-Some c =
    let f = c.self.inside in
    let xs : List ℕ = f.bytes.items in
    let stop : ℕ = f.start + c.min-room.result in
    let end : ℕ = f.seen + c.in-Some.at in
    let there = found xs c.deref.result.now f.start f.seen stop c.in-Some.at c.deref.ensures.value (omega arith) (omega arith) c.self.invariant.3 c.in-Some.ensures in
    let first = taken c.args.self.now xs c.deref-in-Some.result.now f.start end c.self.view_is c.deref-in-Some.ensures.value (omega arith) (omega arith) there.1 there.2 (omega arith) in
    ((refl, (λ _. tt), (first.0, first.1)), record { first = first.2; left = tt })
