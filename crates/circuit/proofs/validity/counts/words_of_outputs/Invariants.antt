use Rattle.std.proofs.Common.{◌≡◌, ◌+◌, ◌≤◌, min, drop}
use Rattle.circuit.specs.Valid.{output_words}
use Rattle.circuit.proofs.validity.counts.words_of_outputs.Given as goal

abbrev pub invariant-loop-cell : goal.invariant-loop-cell
invariant-loop-cell l =
    (l.words ≤ 4294967296)
    × (min (l.words + output_words (drop l.cell-index l.cells)) 4294967296 ≡ min (output_words l.cells) 4294967296)
