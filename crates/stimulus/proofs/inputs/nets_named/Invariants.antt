use Rattle.std.proofs.Common.{◌≡◌, ◌++◌, drop, map}
use Rattle.std.specs.Option.{option_map}
use Rattle.stimulus.specs.Inputs.{nets_named}
use Rattle.stimulus.proofs.inputs.nets_named.Given as goal

abbrev pub invariant-loop-word : goal.invariant-loop-word
invariant-loop-word l = nets_named l.circuit (map (λ x. x.now) l.words) ≡ option_map (λ more. l.nets.items ++ more) (nets_named l.circuit (map (λ x. x.now) (drop l.word-index l.words)))
