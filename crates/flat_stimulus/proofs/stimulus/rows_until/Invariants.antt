use Rattle.std.proofs.Common.{◌≡◌, ◌≤◌, leb, take}
use Rattle.std.specs.List.{count_by}
use Rattle.flat_stimulus.proofs.stimulus.rows_until.Given as goal

abbrev pub invariant-loop-row : goal.invariant-loop-row
invariant-loop-row l = record {
  value : l.count ≡ count_by (λ row. leb row.offset l.most) (take l.row-index l.rows);
  most : l.count ≤ l.row-index;
}
