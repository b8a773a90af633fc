use Rattle.std.proofs.Common.{◌≡◌, ◌+◌, ◌≤◌, min, drop}
use Rattle.circuit.specs.Valid.{register_words}
use Rattle.circuit.proofs.validity.counts.words_of_registers.Given as goal

abbrev pub invariant-loop-reg : goal.invariant-loop-reg
invariant-loop-reg l =
    (l.words ≤ 4294967296)
    × (min (l.words + register_words (drop l.reg-index l.regs)) 4294967296 ≡ min (register_words l.regs) 4294967296)
