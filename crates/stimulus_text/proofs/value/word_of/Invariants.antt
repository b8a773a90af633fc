use Rattle.std.proofs.Common.{◌≡◌, ◌^◌, ◌<◌, drop}
use Rattle.sim_base.specs.Digits.{hexadecimal_after}
use Rattle.stimulus_text.proofs.value.word_of.Given as goal

abbrev pub invariant-loop-byte : goal.invariant-loop-byte
invariant-loop-byte l = record {
  rest : hexadecimal_after 0 l.text ≡ hexadecimal_after l.number (drop l.byte-index l.text);
  below : l.number < 16 ^ l.byte-index;
}
