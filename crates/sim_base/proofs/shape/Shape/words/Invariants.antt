use Rattle.std.proofs.Common.{◌≡◌, ◌*◌, ◌^◌, ◌≤◌, take}
use Rattle.sim_base.specs.Shape.{words_of_widths}
use Rattle.sim_base.proofs.shape.Shape.words.Given as goal

-- the words of the slots so far, of which each takes at most 2 ^ 27
abbrev pub invariant-loop-width : goal.invariant-loop-width
invariant-loop-width l = record {
  sum : l.words ≡ words_of_widths (take l.width-index l.width-items);
  most : l.words ≤ l.width-index * 2 ^ 27;
}
