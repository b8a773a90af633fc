use Rattle.std.proofs.Common.{◌≡◌, ◌++◌, drop, map}
use Rattle.std.specs.Option.{option_map}
use Rattle.flat_stimulus.specs.Text.{rows_in}
use Rattle.flat_stimulus.proofs.row.read_rows.Given as goal

abbrev pub invariant-loop-line : goal.invariant-loop-line
invariant-loop-line l = rows_in l.columns l.period 0 (map (λ x. x.now) l.lines) ≡ option_map (λ more. l.rows.items ++ more) (rows_in l.columns l.period l.least (map (λ x. x.now) (drop l.line-index l.lines)))
