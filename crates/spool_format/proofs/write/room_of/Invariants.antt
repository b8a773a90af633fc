use Rattle.std.proofs.Common.{◌≡◌, take}
use Rattle.sim_base.specs.Shape.{words_of_widths}
use Rattle.spool_format.proofs.write.room_of.Given as goal

abbrev pub invariant-loop-width : goal.invariant-loop-width
invariant-loop-width l = l.room ≡ words_of_widths (take l.width-index l.widths)
