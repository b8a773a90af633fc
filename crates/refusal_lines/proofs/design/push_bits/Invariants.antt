use Rattle.std.proofs.Common.{◌≡◌, ◌++◌, flat_map, take}
use Rattle.refusal_lines.specs.Lines.{bit_text}
use Rattle.refusal_lines.proofs.design.push_bits.Given as goal

abbrev pub invariant-loop-bit : goal.invariant-loop-bit
invariant-loop-bit l = l.text.items ≡ l.fn.text.items ++ flat_map bit_text (take l.bit-index l.bits)
