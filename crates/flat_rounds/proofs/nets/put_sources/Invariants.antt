use Rattle.std.proofs.Common.{◌≡◌, ℕ, List, slice_index}
use Rattle.flat_rounds.specs.Pass.{AreGiven, AreNetNumbers, IsSourced}
use Rattle.flat_rounds.proofs.nets.put_sources.Given as goal

abbrev pub invariant-loop-drive : goal.invariant-loop-drive
invariant-loop-drive l = record {
  fits : AreNetNumbers l.circuit l.nets.items;
  right : (numbers : List ℕ) → AreGiven l.circuit l.regs l.inputs numbers → (n : ℕ) → IsSourced l.circuit l.drive-index n → slice_index l.nets.items n ≡ slice_index numbers n;
}
