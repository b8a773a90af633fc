use Rattle.std.proofs.Common.{◌≡◌, ◌+◌, ◌-◌, ◌≤◌, drop, length}
use Rattle.rtlil_lexer.specs.Strings.{unescaped}
use Rattle.rtlil_lexer.proofs.quoted.characters_in.Given as goal

abbrev pub invariant-loop-at : goal.invariant-loop-at
invariant-loop-at l = record {
  count : l.count + length (unescaped (drop l.at l.body)) ≡ length (unescaped l.body);
  below : l.count ≤ l.at;
}

abbrev pub decreases-loop-at : goal.decreases-loop-at
decreases-loop-at l = length l.body - l.at
