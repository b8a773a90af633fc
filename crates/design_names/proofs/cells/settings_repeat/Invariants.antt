use Rattle.std.proofs.Common.{◌≡◌, [], drop, map}
use Rattle.design_names.specs.Clashes.{setting_name}
use Rattle.design_names.specs.Names.{any_again}
use Rattle.design_names.proofs.cells.settings_repeat.Given as goal

abbrev pub invariant-loop-setting : goal.invariant-loop-setting
invariant-loop-setting l = any_again l.names (map setting_name (drop l.setting-index l.settings)) ≡ any_again [] (map setting_name l.settings)
