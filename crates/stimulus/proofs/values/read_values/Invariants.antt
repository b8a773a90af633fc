use Rattle.std.proofs.Common.{◌≡◌, ◌++◌, drop, map}
use Rattle.std.specs.Option.{option_map}
use Rattle.stimulus_text.specs.Numbers.{number_of}
use Rattle.stimulus.specs.Steps.{values_of}
use Rattle.stimulus.proofs.values.read_values.Given as goal

abbrev pub invariant-loop-i : goal.invariant-loop-i
invariant-loop-i l = values_of l.widths (map (λ x. x.now) l.words) ≡ option_map (λ more. map number_of l.values.items ++ more) (values_of (drop l.i l.widths) (map (λ x. x.now) (drop l.i l.words)))
