use Rattle.std.proofs.Common.{ℕ, List, sym, ◌∙◌, ap}
use Rattle.std.specs.Prelude.{slice_get}
use Rattle.driver_check.proofs.Places.{read}
use Rattle.eval_commit.proofs.Spreading.{seed_more, still_inside}
use Rattle.eval_commit.proofs.Telling.{have_still, told_then}
use Rattle.eval_commit.proofs.put.seed.Goals as goal

pub put_kept-requires-clause-inside : goal.put_kept-requires-clause-inside
put_kept-requires-clause-inside c =
    still_inside c.args.nets.now c.loop-place.nets c.loop-place.invariant.same c.index-roots-place.result
    (c.requires.inside c.loop-place.place c.index-roots-place.result (read c.args.roots.now c.loop-place.place c.index-roots-place.result c.loop-place-test.true c.index-roots-place.is))

pub put_kept-requires-clause-kept : goal.put_kept-requires-clause-kept
put_kept-requires-clause-kept c =
    c.requires.kept c.loop-place.place c.index-roots-place.result (read c.args.roots.now c.loop-place.place c.index-roots-place.result c.loop-place-test.true c.index-roots-place.is)

pub put_kept-requires-clause-marks : goal.put_kept-requires-clause-marks
put_kept-requires-clause-marks c i k at =
    have_still c.args.readers.now c.args.marks.now c.loop-place.marks c.loop-place.invariant.told.width c.requires.marks c.loop-place.place i k (ap (λ (ks : List ℕ). slice_get ks i) (sym c.row.ensures) ∙ at)

pub loop-place-preserved : goal.loop-place-preserved
loop-place-preserved c =
    let at = read c.args.roots.now c.loop-place.place c.index-roots-place.result c.loop-place-test.true c.index-roots-place.is in
    record {
      same = c.put_kept.ensures.widths ∙ c.loop-place.invariant.same;
      told =
          told_then c.args.roots.now c.args.readers.now c.args.nets.now c.loop-place.nets c.put_kept.new.nets c.args.marks.now c.loop-place.marks c.put_kept.new.marks c.loop-place.invariant.told
          (c.put_kept.ensures.told c.args.roots.now c.args.readers.now c.loop-place.place c.requires.apart at c.row.ensures);
      seeded = seed_more c.args.roots.now (record { inputs = c.args.inputs.now; regs = c.args.regs.now; reads = c.args.reads.now }) c.loop-place.place c.index-roots-place.result c.args.nets.now c.loop-place.nets c.put_kept.new.nets
          c.requires.apart at (c.requires.kept c.loop-place.place c.index-roots-place.result at) c.put_kept.ensures.digits c.put_kept.ensures.other c.loop-place.invariant.seeded;
    }
