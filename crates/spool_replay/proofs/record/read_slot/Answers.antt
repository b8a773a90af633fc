-- The slot is one of the shape, and its words stand in the chunk.
use Rattle.std.proofs.Common.{◌≡◌, ◌+◌, ◌-◌, ap, sym, ◌∙◌, take, drop, get_or, length, arith}
use Rattle.std.proofs.lemmas.List.{length-take}
use Rattle.spool_format.specs.Reading.{written_at}
use Rattle.spool_format.proofs.Placed.{written_length}
use Rattle.spool_replay.proofs.Listed.{slot_at}
use Rattle.spool_replay.proofs.record.read_slot.Goals as goal

pub bounds-chunk-at : goal.bounds-chunk-at
bounds-chunk-at c =
    (slot_at _ c.args.chunk.now _ _ c.args.at c.requires.listed c.requires.within c.requires.placed c.requires.room).there

pub bounds-widths-slot : goal.bounds-widths-slot
bounds-widths-slot c =
    (slot_at _ c.args.chunk.now _ _ c.args.at c.requires.listed c.requires.within c.requires.placed c.requires.room).known

pub bounds-places-slot : goal.bounds-places-slot
bounds-places-slot c =
    (slot_at _ c.args.chunk.now _ _ c.args.at c.requires.listed c.requires.within c.requires.placed c.requires.room).placed

pub slice_bounds-write_at-end : goal.slice_bounds-write_at-end
slice_bounds-write_at-end c =
    let s = slot_at _ c.args.chunk.now _ _ c.args.at c.requires.listed c.requires.within c.requires.placed c.requires.room in
    omega (arith, s.fits)

pub write_at-requires : goal.write_at-requires
write_at-requires c =
    let s = slot_at _ c.args.chunk.now _ _ c.args.at c.requires.listed c.requires.within c.requires.placed c.requires.room in
    let room : c.args.at + 1 + c.div_ceil-room.result - (c.args.at + 1) ≡ c.div_ceil-room.result = omega arith in
    let long = length-take (c.args.at + 1 + c.div_ceil-room.result - (c.args.at + 1)) (drop (c.args.at + 1) c.args.chunk.now) in
    omega (arith, s.inside, long, room)

pub returns-clause-words : goal.returns-clause-words
returns-clause-words c =
    let s = slot_at _ c.args.chunk.now _ _ c.args.at c.requires.listed c.requires.within c.requires.placed c.requires.room in
    let room : c.args.at + 1 + c.div_ceil-room.result - (c.args.at + 1) ≡ c.div_ceil-room.result = omega arith in
    c.write_at.ensures ∙ ap (λ k. written_at c.args.words.now (get_or c.args.places.now (get_or c.args.chunk.now c.args.at 0) 0) (take k (drop (c.args.at + 1) c.args.chunk.now))) (room ∙ c.div_ceil-room.ensures) ∙ sym s.sets

pub returns-clause-behind : goal.returns-clause-behind
returns-clause-behind c =
    let s = slot_at _ c.args.chunk.now _ _ c.args.at c.requires.listed c.requires.within c.requires.placed c.requires.room in
    ap (λ k. drop (c.args.at + 1 + k) c.args.chunk.now) c.div_ceil-room.ensures ∙ sym s.behind

pub returns-clause-within : goal.returns-clause-within
returns-clause-within c =
    let s = slot_at _ c.args.chunk.now _ _ c.args.at c.requires.listed c.requires.within c.requires.placed c.requires.room in
    omega (arith, s.fits)

pub returns-clause-room : goal.returns-clause-room
returns-clause-room c =
    let s = slot_at _ c.args.chunk.now _ _ c.args.at c.requires.listed c.requires.within c.requires.placed c.requires.room in
    let room : c.args.at + 1 + c.div_ceil-room.result - (c.args.at + 1) ≡ c.div_ceil-room.result = omega arith in
    let new = take (c.args.at + 1 + c.div_ceil-room.result - (c.args.at + 1)) (drop (c.args.at + 1) c.args.chunk.now) in
    let long = length-take (c.args.at + 1 + c.div_ceil-room.result - (c.args.at + 1)) (drop (c.args.at + 1) c.args.chunk.now) in
    ap length c.write_at.ensures ∙ written_length c.args.words.now new (get_or c.args.places.now (get_or c.args.chunk.now c.args.at 0) 0) (omega (arith, s.inside, long, room))
