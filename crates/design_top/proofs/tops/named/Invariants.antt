use Rattle.std.proofs.Common.{◌≡◌, ◌++◌, drop}
use Rattle.design_top.specs.Tops.{numbers_of, has_name}
use Rattle.design_top.proofs.tops.named.Given as goal

abbrev pub invariant-loop-number : goal.invariant-loop-number
invariant-loop-number l = l.found ++ numbers_of (has_name l.name) l.number (drop l.number l.modules) ≡ numbers_of (has_name l.name) 0 l.modules
