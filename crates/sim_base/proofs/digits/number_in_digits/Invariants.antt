use Rattle.std.proofs.Common.{◌≡◌, ◌^◌, ◌<◌, drop}
use Rattle.sim_base.specs.Digits.{decimal_after}
use Rattle.sim_base.proofs.digits.number_in_digits.Given as goal

abbrev pub invariant-loop-byte : goal.invariant-loop-byte
invariant-loop-byte l = record {
  rest : decimal_after l.number (drop l.byte-index l.text) ≡ decimal_after 0 l.text;
  below : l.number < 10 ^ l.byte-index;
}
