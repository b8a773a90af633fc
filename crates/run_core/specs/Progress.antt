-- How far the samples of a run were given.
use Rattle.std.specs.Prelude.{◌≡◌, length, map}
use Rattle.sim_base.specs.Shape.{words_of_widths}
use Rattle.sim_base.specs.Values.{widths}
use Rattle.circuit.specs.Slots.{slot_widths}
use Rattle.circuit.specs.declared.netlist.Circuit.{Circuit}
use Rattle.stimulus_blocks.specs.Courses.{Course}
use Rattle.run_core.specs.Cursor.{IsCursor}
use Rattle.run_core.specs.declared.progress.Progress.{Progress}

-- the samples of a cursor were given, with room for the words of all slots
pub record IsProgress (c : Circuit) (s : Course) (p : Progress) : Type 0 where
  pub cursor : IsCursor c s p.cursor
  pub rooms : widths p.rooms.items ≡ map (λ m. m.width) c.mems
  pub words : length p.words.items ≡ words_of_widths (slot_widths c)
