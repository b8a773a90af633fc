use Rattle.std.proofs.Common.{◌≡◌, map, drop}
use Rattle.cell_library.specs.Table.{line_in, seen}
use Rattle.cell_library.proofs.table.line_in.Given as goal

abbrev pub invariant-loop-line : goal.invariant-loop-line
invariant-loop-line l = line_in (map seen l.lines) l.name ≡ line_in (map seen (drop l.line-index l.lines)) l.name
