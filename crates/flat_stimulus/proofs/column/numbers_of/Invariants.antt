use Rattle.std.proofs.Common.{◌≡◌, ◌++◌, drop}
use Rattle.std.specs.Option.{option_map}
use Rattle.flat_stimulus.specs.Text.{numbers_of_columns}
use Rattle.flat_stimulus.proofs.column.numbers_of.Given as goal

abbrev pub invariant-loop-net : goal.invariant-loop-net
invariant-loop-net l = numbers_of_columns l.columns l.nets ≡ option_map (λ more. l.numbers.items ++ more) (numbers_of_columns l.columns (drop l.net-index l.nets))
