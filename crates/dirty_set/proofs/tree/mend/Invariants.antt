use Rattle.std.proofs.Common.{◌≡◌, ℕ, ◌+◌, ◌*◌, ◌<◌, ◌≤◌, length, drop}
use Rattle.dirty_set.specs.Tree.{IsSummedBut}
use Rattle.dirty_set.proofs.tree.mend.Given as goal

abbrev pub invariant-loop-place : goal.invariant-loop-place
invariant-loop-place l = record {
  inside : l.place < length l.words.items;
  room : length l.words.items ≡ length l.fn.words.items;
  summed : (first : ℕ) → length l.fn.words.items ≤ 64 * first + 1 → IsSummedBut l.fn.changed first l.fn.words.items → IsSummedBut l.place first l.words.items;
  leaves : (first : ℕ) → length l.fn.words.items ≤ 64 * first + 1 → drop first l.words.items ≡ drop first l.fn.words.items;
}

abbrev pub decreases-loop-place : goal.decreases-loop-place
decreases-loop-place l = l.place
