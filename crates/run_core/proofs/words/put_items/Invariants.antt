use Rattle.std.proofs.Common.{◌≡◌, length, take, Some}
use Rattle.sim_base.specs.Shape.{words_of_widths}
use Rattle.sim_base.specs.Values.{widths}
use Rattle.circuit.specs.Rounds.{Standing}
use Rattle.spool_format.specs.Reading.{written_at}
use Rattle.run_core.specs.Words.{item_words, widths_of_items}
use Rattle.run_core.proofs.words.put_items.Given as goal

abbrev pub invariant-loop-item : goal.invariant-loop-item
invariant-loop-item l = record {
  place : l.place ≡ words_of_widths (widths_of_items l.circuit (take l.item-index l.circuit.items));
  rooms : widths l.rooms ≡ widths l.fn.rooms;
  long : length l.words ≡ length l.fn.words;
  words : (s : Standing) → l.machine.standing ≡ Some s → l.words ≡ written_at l.fn.words 0 (item_words l.circuit s (take l.item-index l.circuit.items));
}
