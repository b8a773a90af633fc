use Rattle.std.proofs.Common.{◌≡◌, drop}
use Rattle.std.specs.List.{list_all}
use Rattle.std.specs.Option.{is_some}
use Rattle.design_memory.specs.Settings.{setting_at}
use Rattle.design_memory.proofs.allowed.are_given.Given as goal

abbrev pub invariant-loop-parameter : goal.invariant-loop-parameter
invariant-loop-parameter l = list_all (λ p. is_some (setting_at l.settings p)) l.parameters ≡ list_all (λ p. is_some (setting_at l.settings p)) (drop l.parameter-index l.parameters)
