use Rattle.std.proofs.Common.{◌≡◌, ◌+◌, ◌≤◌, min, drop}
use Rattle.circuit.specs.Valid.{net_words}
use Rattle.circuit.proofs.validity.counts.words_of_nets.Given as goal

abbrev pub invariant-loop-net : goal.invariant-loop-net
invariant-loop-net l =
    (l.words ≤ 4294967296)
    × (min (l.words + net_words (drop l.net-index l.nets)) 4294967296 ≡ min (net_words l.nets) 4294967296)
