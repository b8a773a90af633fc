use Rattle.std.proofs.Common.{map, ◌∙◌, ap}
use Rattle.sim_base.specs.Shape.{words_of_widths}
use Rattle.circuit.specs.Slots.{slot_widths}
use Rattle.circuit.specs.declared.netlist.Circuit.{Circuit}
use Rattle.circuit.specs.declared.memory.Mem.{Mem}
use Rattle.run_core.proofs.progress.Progress.new.Goals as goal

pub returns-clause-progress : goal.returns-clause-progress
returns-clause-progress c = record {
  cursor = c.in_ok-cursor.ensures.cursor;
  rooms = c.in_ok-rooms.ensures ∙ ap (λ (x : Circuit). map (λ (m : Mem). m.width) x.mems) c.deref.ensures;
  words = c.in_ok-words.ensures ∙ ap (λ (x : Circuit). words_of_widths (slot_widths x)) c.deref-2.ensures;
}
