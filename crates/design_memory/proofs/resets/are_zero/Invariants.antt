use Rattle.std.proofs.Common.{◌≡◌, drop}
use Rattle.std.specs.List.{list_all}
use Rattle.design_memory.specs.Rules.{is_zero_piece}
use Rattle.design_memory.proofs.resets.are_zero.Given as goal

abbrev pub invariant-loop-piece : goal.invariant-loop-piece
invariant-loop-piece l = list_all is_zero_piece l.pieces ≡ list_all is_zero_piece (drop l.piece-index l.pieces)
