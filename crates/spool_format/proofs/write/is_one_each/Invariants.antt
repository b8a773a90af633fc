use Rattle.std.proofs.Common.{◌≡◌, ◌<◌, take}
use Rattle.sim_base.specs.Shape.{words_of_widths}
use Rattle.spool_format.proofs.write.is_one_each.Given as goal

abbrev pub invariant-loop-width : goal.invariant-loop-width
invariant-loop-width l = l.most < 32 → words_of_widths (take l.width-index l.widths) ≡ l.width-index
