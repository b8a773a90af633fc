use Rattle.std.proofs.Common.{◌≡◌, ℕ, ◌<◌, ◌⊎◌, length, Some}
use Rattle.std.specs.Prelude.{slice_get}
use Rattle.driver_check.specs.Search.{Has}
use Rattle.driver_check.specs.declared.search.Mark.TheVariants as mark
use Rattle.driver_check.specs.declared.search.Frame.{Frame}
use Rattle.driver_check.proofs.search.mark_stuck.Given as goal

abbrev pub invariant-loop-frame : goal.invariant-loop-frame
invariant-loop-frame l = record {
  size : length l.marks.items ≡ length l.fn.marks.items;
  all : (k : ℕ) (f : Frame) → k < l.frame-index → slice_get l.stack k ≡ Some f → Has l.marks.items mark.Stuck f.vertex;
  others : (v : ℕ) → Has l.marks.items mark.Stuck v ⊎ (slice_get l.marks.items v ≡ slice_get l.fn.marks.items v);
  only : (v : ℕ) → Has l.marks.items mark.Stuck v → Has l.fn.marks.items mark.Stuck v ⊎ ((k : ℕ) × (f : Frame) × (slice_get l.stack k ≡ Some f) × (f.vertex ≡ v));
}
