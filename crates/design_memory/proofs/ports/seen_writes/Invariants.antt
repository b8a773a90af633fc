use Rattle.std.proofs.Common.{◌≡◌, ◌*◌, ◌+◌, map}
use Rattle.std.specs.List.{range_with_len}
use Rattle.design_memory.specs.Settings.{is_set}
use Rattle.design_memory.proofs.ports.seen_writes.Given as goal

abbrev pub invariant-loop-write : goal.invariant-loop-write
invariant-loop-write l = l.see ≡ map (λ j. is_set l.sees (l.fn.port * l.fn.writes + j)) (range_with_len 0 l.write)
