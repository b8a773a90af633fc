use Rattle.std.proofs.Common.{◌≡◌, drop}
use Rattle.cell_library.specs.Values.{given}
use Rattle.cell_library.proofs.values.given.Given as goal

abbrev pub invariant-loop-setting : goal.invariant-loop-setting
invariant-loop-setting l = given l.settings l.fn.parameter ≡ given (drop l.setting-index l.settings) l.fn.parameter
