use Rattle.std.proofs.Common.{◌≡◌, ◌++◌, [], drop}
use Rattle.std.specs.Map.{keys_of}
use Rattle.design_parts.specs.Parts.{first_fault}
use Rattle.design_top.specs.Names.{name_checks, numbered}
use Rattle.design_top.proofs.names.number_modules.Given as goal

abbrev pub invariant-loop-number : goal.invariant-loop-number
invariant-loop-number l = record {
  same : first_fault (name_checks [] l.modules) ≡ first_fault (name_checks (keys_of l.numbers) (drop l.number l.modules));
  numbers : l.numbers ++ numbered l.number (drop l.number l.modules) ≡ numbered 0 l.modules;
}
