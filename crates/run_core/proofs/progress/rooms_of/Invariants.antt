use Rattle.std.proofs.Common.{◌≡◌, map, take}
use Rattle.sim_base.specs.Values.{widths}
use Rattle.run_core.proofs.progress.rooms_of.Given as goal

abbrev pub invariant-loop-mem : goal.invariant-loop-mem
invariant-loop-mem l = widths l.rooms.items ≡ map (λ m. m.width) (take l.mem-index l.mem-items)
