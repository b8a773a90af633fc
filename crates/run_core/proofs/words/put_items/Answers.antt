use Rattle.std.proofs.Common.{refl, ◌∙◌, ap, arith}
use Rattle.sim_base.specs.Shape.{words_of_widths}
use Rattle.spool_format.specs.Reading.{written_at}
use Rattle.eval_commit.proofs.PortsOver.{read_as}
use Rattle.run_core.specs.Words.{item_words, widths_of_items}
use Rattle.run_core.proofs.Writing.{written_none}
use Rattle.run_core.proofs.Shown.{items_all, items_fit, items_more, items_words}
use Rattle.run_core.proofs.words.put_items.Goals as goal

pub loop-item-init : goal.loop-item-init
loop-item-init c = record {
  place = refl;
  rooms = refl;
  long = refl;
  words = λ s standing. written_none c.args.words.now 0;
}

pub put_item-requires-clause-there : goal.put_item-requires-clause-there
put_item-requires-clause-there c =
    c.law_of_parts.ensures.item c.args.circuit.now c.loop-item.item-index c.item-item.result c.requires.valid
    (read_as c.args.circuit.now.items c.as_slice-item-items.result.now c.loop-item.item-index c.item-item.result c.as_slice-item-items.ensures c.loop-item-test.true c.item-item.is)

pub put_item-requires-clause-rooms : goal.put_item-requires-clause-rooms
put_item-requires-clause-rooms c = c.loop-item.invariant.rooms ∙ c.requires.rooms

pub put_item-requires-clause-room : goal.put_item-requires-clause-room
put_item-requires-clause-room c =
    let fits = items_fit c.args.circuit.now c.loop-item.item-index c.item-item.result
    (read_as c.args.circuit.now.items c.as_slice-item-items.result.now c.loop-item.item-index c.item-item.result c.as_slice-item-items.ensures c.loop-item-test.true c.item-item.is) in
    omega (arith, fits, c.requires.room, c.loop-item.invariant.place, c.loop-item.invariant.long)

pub overflow_add-place : goal.overflow_add-place
overflow_add-place c =
    let fits = items_fit c.args.circuit.now c.loop-item.item-index c.item-item.result
    (read_as c.args.circuit.now.items c.as_slice-item-items.result.now c.loop-item.item-index c.item-item.result c.as_slice-item-items.ensures c.loop-item-test.true c.item-item.is) in
    omega (arith, fits, c.requires.room, c.loop-item.invariant.place, c.words_of_item-place.ensures)

pub loop-item-preserved : goal.loop-item-preserved
loop-item-preserved c =
    let at = read_as c.args.circuit.now.items c.as_slice-item-items.result.now c.loop-item.item-index c.item-item.result c.as_slice-item-items.ensures c.loop-item-test.true c.item-item.is in
    let fits = items_fit c.args.circuit.now c.loop-item.item-index c.item-item.result at in
    let more = items_more c.args.circuit.now c.loop-item.item-index c.item-item.result at in
    record {
      place = omega (arith, more, c.loop-item.invariant.place, c.words_of_item-place.ensures);
      rooms = c.put_item.ensures.rooms ∙ c.loop-item.invariant.rooms;
      long = c.put_item.ensures.long ∙ c.loop-item.invariant.long;
      words = λ s standing. items_words c.args.circuit.now s c.loop-item.item-index c.item-item.result at c.args.words.now c.loop-item.words c.put_item.new.words c.loop-item.place
          c.loop-item.invariant.place c.requires.room (c.loop-item.invariant.words s standing) (c.put_item.ensures.words s standing);
    }

pub returns-clause-place : goal.returns-clause-place
returns-clause-place c =
    c.loop-item.invariant.place ∙ ap (λ xs. words_of_widths (widths_of_items c.args.circuit.now xs))
    (items_all c.args.circuit.now c.as_slice-item-items.result.now c.loop-item.item-index c.as_slice-item-items.ensures c.loop-item-test.false)

pub returns-clause-words : goal.returns-clause-words
returns-clause-words c s standing =
    c.loop-item.invariant.words s standing ∙ ap (λ xs. written_at c.args.words.now 0 (item_words c.args.circuit.now s xs))
    (items_all c.args.circuit.now c.as_slice-item-items.result.now c.loop-item.item-index c.as_slice-item-items.ensures c.loop-item-test.false)
