use Rattle.std.proofs.Common.{◌≡◌, ◌++◌, drop}
use Rattle.std.specs.Option.{option_map}
use Rattle.stimulus.specs.Inputs.{columns_of}
use Rattle.stimulus.proofs.inputs.columns_of.Given as goal

abbrev pub invariant-loop-input : goal.invariant-loop-input
invariant-loop-input l = columns_of l.nets l.inputs ≡ option_map (λ more. l.columns.items ++ more) (columns_of l.nets (drop l.input-index l.inputs))
