use Rattle.std.proofs.Common.{◌≡◌, take}
use Rattle.design_cells.specs.Joined.{settings_of}
use Rattle.design_cells.proofs.ports.settings_of.Given as goal

abbrev pub invariant-loop-setting : goal.invariant-loop-setting
invariant-loop-setting l = l.settings ≡ settings_of (take l.setting-index l.written)
