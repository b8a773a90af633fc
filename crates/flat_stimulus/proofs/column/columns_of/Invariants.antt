use Rattle.std.proofs.Common.{◌≡◌, ◌++◌, drop}
use Rattle.flat_stimulus.specs.Text.{columns_among}
use Rattle.flat_stimulus.proofs.column.columns_of.Given as goal

abbrev pub invariant-loop-item : goal.invariant-loop-item
invariant-loop-item l = columns_among l.circuit l.item-items ≡ l.columns.items ++ columns_among l.circuit (drop l.item-index l.item-items)
