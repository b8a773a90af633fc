-- Why the reading of a line stops, as the fault of a text.
use Rattle.std.specs.Prelude.{ℕ}
use Rattle.stimulus_text.specs.declared.fault.StimFault.{StimFault}
use Rattle.stimulus_text.specs.declared.fault.StimFault.TheVariants as fault
use Rattle.stimulus.specs.declared.stop.Stop.{Stop}
use Rattle.stimulus.specs.declared.stop.Stop.TheVariants as stop

abbrev pub stopped : Stop → ℕ → StimFault
stopped (stop.Fault kind) line = fault.At kind line
stopped stop.NoMemory line = fault.NoMemory
