use Rattle.std.proofs.Common.{length, map, ◌∙◌, ap, arith}
use Rattle.std.proofs.lemmas.List.{length-map}
use Rattle.circuit.specs.Shown.{flag}
use Rattle.spool_format.proofs.Placed.{written_length}
use Rattle.run_core.proofs.Shown.{diags_few, slots_apart, words_shown}
use Rattle.run_core.proofs.words.put_words.Goals as goal

pub put_items-place-requires-clause-room : goal.put_items-place-requires-clause-room
put_items-place-requires-clause-room c = omega (arith, slots_apart c.args.circuit.now, c.requires.room)

pub put_fired-requires-clause-few : goal.put_fired-requires-clause-few
put_fired-requires-clause-few c = diags_few c.args.circuit.now (c.law_of_validity.ensures.parts c.args.circuit.now c.requires.valid).counts.slots

pub put_fired-requires-clause-room : goal.put_fired-requires-clause-room
put_fired-requires-clause-room c = omega (arith, slots_apart c.args.circuit.now, c.requires.room, c.put_items-place.ensures.place, c.put_items-place.ensures.long)

pub returns-clause-rooms : goal.returns-clause-rooms
returns-clause-rooms c = c.put_items-place.ensures.rooms

pub returns-clause-long : goal.returns-clause-long
returns-clause-long c =
    let long = length-map c.args.machine.now.fired flag in
    ap length c.put_fired.ensures
    ∙ written_length c.put_items-place.new.words (map flag c.args.machine.now.fired) c.put_items-place.result
    (omega (arith, long, slots_apart c.args.circuit.now, c.requires.room, c.requires.fired, c.put_items-place.ensures.place, c.put_items-place.ensures.long)) ∙ c.put_items-place.ensures.long

pub returns-clause-words : goal.returns-clause-words
returns-clause-words c run k s at =
    words_shown run k s c.args.machine.now c.args.circuit.now at c.requires.circuit c.args.words.now c.put_items-place.new.words c.put_fired.new.words c.put_items-place.result c.requires.room c.put_items-place.ensures.place
    (c.put_items-place.ensures.words s at.standing) c.put_fired.ensures
