use Rattle.std.proofs.Common.{◌≡◌, ◌++◌, drop}
use Rattle.design_top.specs.Tops.{numbers_of, is_marked}
use Rattle.design_top.proofs.tops.marked.Given as goal

abbrev pub invariant-loop-number : goal.invariant-loop-number
invariant-loop-number l = l.found ++ numbers_of is_marked l.number (drop l.number l.modules) ≡ numbers_of is_marked 0 l.modules
