use Rattle.std.proofs.Common.{◌≡◌, ◌++◌, ◌∷◌, take}
use Rattle.std.specs.List.{flat_map}
use Rattle.flat_stimulus.proofs.column.line_of.Given as goal

abbrev pub invariant-loop-column : goal.invariant-loop-column
invariant-loop-column l = l.line.items ≡ l.initial.line.items ++ flat_map (λ column. 32 ∷ column.name) (take l.column-index l.columns)
