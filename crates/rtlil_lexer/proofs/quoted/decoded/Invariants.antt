use Rattle.std.proofs.Common.{◌≡◌, ◌-◌, ◌++◌, drop, length, true}
use Rattle.std.specs.List.{list_all}
use Rattle.rtlil_lexer.specs.Strings.{unescaped, is_byte}
use Rattle.rtlil_lexer.proofs.quoted.decoded.Given as goal

abbrev pub invariant-loop-at : goal.invariant-loop-at
invariant-loop-at l = record {
  bytes : l.bytes.items ++ unescaped (drop l.at l.body) ≡ unescaped l.body;
  fit : list_all is_byte (unescaped (drop l.at l.body)) ≡ true;
}

abbrev pub decreases-loop-at : goal.decreases-loop-at
decreases-loop-at l = length l.body - l.at
