use Rattle.std.proofs.Common.{◌≡◌, ◌++◌, drop}
use Rattle.trace_text.specs.Columns.{columns, columns_from}
use Rattle.trace_text.proofs.printer.columns_of.Given as goal

-- the columns of the items that are left stand behind those that were made
abbrev pub invariant-loop-item : goal.invariant-loop-item
invariant-loop-item l = l.columns.items ++ columns_from l.circuit.nets l.circuit.mems l.place (drop l.item-index l.item-items) ≡ columns l.circuit
