use Rattle.std.proofs.Common.{◌≡◌, ◌++◌, drop}
use Rattle.design_walk.specs.Walks.{clash_flags}
use Rattle.design_walk.proofs.flags.either.Given as goal

abbrev pub invariant-loop-place : goal.invariant-loop-place
invariant-loop-place l = l.flags ++ clash_flags (drop l.place l.cells) (drop l.place l.items) ≡ clash_flags l.cells l.items
