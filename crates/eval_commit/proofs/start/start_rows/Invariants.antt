use Rattle.std.proofs.Common.{◌≡◌, map, take}
use Rattle.memory_cells.specs.Rows.{start_rows}
use Rattle.eval_commit.proofs.start.start_rows.Given as goal

abbrev pub invariant-loop-mem : goal.invariant-loop-mem
invariant-loop-mem l = l.rows ≡ map start_rows (take l.mem-index l.mem-items)
