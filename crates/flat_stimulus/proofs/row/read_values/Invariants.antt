use Rattle.std.proofs.Common.{◌≡◌, ◌++◌, drop, map}
use Rattle.std.specs.Option.{option_map}
use Rattle.flat_stimulus.specs.Text.{values_of}
use Rattle.flat_stimulus.proofs.row.read_values.Given as goal

abbrev pub invariant-loop-i : goal.invariant-loop-i
invariant-loop-i l = values_of l.columns (map (λ x. x.now) l.words) ≡ option_map (λ more. l.values.items ++ more) (values_of (drop l.i l.columns) (map (λ x. x.now) (drop l.i l.words)))
