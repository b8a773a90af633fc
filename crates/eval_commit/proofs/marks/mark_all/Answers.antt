use Rattle.std.proofs.Common.{◌<◌, ℕ, sym, subst}
use Rattle.std.specs.Prelude.{slice_index}
use Rattle.std.proofs.lemmas.Option.{slice_get-get_or}
use Rattle.eval_commit.proofs.Telling.{marked_more, none_marked_too}
use Rattle.eval_commit.proofs.marks.mark_all.Goals as goal

pub loop-k-init : goal.loop-k-init
loop-k-init c = none_marked_too c.args.row.now c.args.marks.now

pub mark-requires : goal.mark-requires
mark-requires c =
    subst (λ (n : ℕ). slice_index c.args.row.now c.loop-k.k-index < n) (sym c.loop-k.invariant.width)
    (c.requires c.loop-k.k-index (slice_index c.args.row.now c.loop-k.k-index) (slice_get-get_or c.args.row.now c.loop-k.k-index 0 c.loop-k-test.true))

pub loop-k-preserved : goal.loop-k-preserved
loop-k-preserved c =
    marked_more c.args.row.now c.loop-k.k-index (slice_index c.args.row.now c.loop-k.k-index) c.args.marks.now c.loop-k.marks c.mark.new.self
    (slice_get-get_or c.args.row.now c.loop-k.k-index 0 c.loop-k-test.true) c.loop-k.invariant c.mark.ensures
