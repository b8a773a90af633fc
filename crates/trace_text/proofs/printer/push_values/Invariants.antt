use Rattle.std.proofs.Common.{◌≡◌, ◌++◌, take}
use Rattle.std.specs.List.{flat_map}
use Rattle.trace_text.specs.Columns.{column_text}
use Rattle.trace_text.proofs.printer.push_values.Given as goal

abbrev pub invariant-loop-column : goal.invariant-loop-column
invariant-loop-column l = l.text.items ≡ l.fn.text.items ++ flat_map (column_text l.words) (take l.column-index l.columns)
