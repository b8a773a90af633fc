use Rattle.std.proofs.Common.{◌≡◌, bytes_eq, drop, find}
use Rattle.design_diagnostics.specs.Names.{parameter_name}
use Rattle.design_diagnostics.proofs.reading.setting_at.Given as goal

abbrev pub invariant-loop-setting : goal.invariant-loop-setting
invariant-loop-setting l = find (λ s. bytes_eq s.name (parameter_name l.fn.parameter)) l.settings ≡ find (λ s. bytes_eq s.name (parameter_name l.fn.parameter)) (drop l.setting-index l.settings)
