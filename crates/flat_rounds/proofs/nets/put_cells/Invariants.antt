use Rattle.std.proofs.Common.{◌≡◌, ℕ, List, slice_index}
use Rattle.flat_rounds.specs.Pass.{AreGiven, AreNetNumbers, IsEvaluated}
use Rattle.flat_rounds.proofs.nets.put_cells.Given as goal

abbrev pub invariant-loop-drive : goal.invariant-loop-drive
invariant-loop-drive l = record {
  fits : AreNetNumbers l.circuit l.nets.items;
  right : (regs inputs numbers : List ℕ) → AreGiven l.circuit regs inputs numbers
      → ((n : ℕ) → IsEvaluated l.circuit 0 n → slice_index l.fn.nets.items n ≡ slice_index numbers n)
      → (n : ℕ) → IsEvaluated l.circuit l.drive-index n → slice_index l.nets.items n ≡ slice_index numbers n;
}
