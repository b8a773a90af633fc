use Rattle.std.proofs.Common.{ℕ, List, refl, sym, ◌∙◌, ap, arith}
use Rattle.std.specs.Prelude.{slice_get, slice_index}
use Rattle.eval_commit.proofs.Spreading.{listed_root, spread_more, still_inside}
use Rattle.eval_commit.proofs.Telling.{have_still, listed_more, nothing_listed, nothing_told, row_listed, told_then}
use Rattle.eval_commit.proofs.put.spread.Goals as goal

pub loop-place-init : goal.loop-place-init
loop-place-init c = record {
  same = refl;
  told = nothing_told c.args.roots.now c.args.readers.now c.args.nets.now c.args.marks.now;
  listed = nothing_listed c.args.readers.now c.args.places.now c.args.marks.now;
  spread = record {
    taken = λ j k r x lt at cov. absurd (omega (arith, lt));
    kept = λ x out. refl;
  };
}

pub put_root-requires-clause-inside : goal.put_root-requires-clause-inside
put_root-requires-clause-inside c =
    let h = listed_root c.args.roots.now c.args.places.now c.args.from.now.width c.loop-place.place-index c.index-roots-place.result c.requires.listed c.loop-place-test.true c.index-roots-place.is in
    still_inside c.args.nets.now c.loop-place.nets c.loop-place.invariant.same c.index-roots-place.result (c.requires.inside (slice_index c.args.places.now c.loop-place.place-index) c.index-roots-place.result h.1)

pub put_root-requires-clause-from_inside : goal.put_root-requires-clause-from_inside
put_root-requires-clause-from_inside c =
    let h = listed_root c.args.roots.now c.args.places.now c.args.from.now.width c.loop-place.place-index c.index-roots-place.result c.requires.listed c.loop-place-test.true c.index-roots-place.is in h.2

pub put_root-requires-clause-marks : goal.put_root-requires-clause-marks
put_root-requires-clause-marks c i k at =
    have_still c.args.readers.now c.args.marks.now c.loop-place.marks c.loop-place.invariant.told.width c.requires.marks (slice_index c.args.places.now c.loop-place.place-index) i k
    (ap (λ (ks : List ℕ). slice_get ks i) (sym c.row.ensures) ∙ at)

pub loop-place-preserved : goal.loop-place-preserved
loop-place-preserved c =
    let h = listed_root c.args.roots.now c.args.places.now c.args.from.now.width c.loop-place.place-index c.index-roots-place.result c.requires.listed c.loop-place-test.true c.index-roots-place.is in
    record {
      same = c.put_root.ensures.widths ∙ c.loop-place.invariant.same;
      told =
          told_then c.args.roots.now c.args.readers.now c.args.nets.now c.loop-place.nets c.put_root.new.nets c.args.marks.now c.loop-place.marks c.put_root.new.marks c.loop-place.invariant.told
          (c.put_root.ensures.told c.args.roots.now c.args.readers.now (slice_index c.args.places.now c.loop-place.place-index) c.requires.apart h.1 c.row.ensures);
      listed =
          listed_more c.args.readers.now c.args.places.now c.loop-place.place-index (slice_index c.args.places.now c.loop-place.place-index) c.args.marks.now c.loop-place.marks c.put_root.new.marks h.0 c.loop-place.invariant.listed
          (row_listed c.args.readers.now (slice_index c.args.places.now c.loop-place.place-index) c.row.result.now c.loop-place.marks c.put_root.new.marks c.row.ensures c.put_root.ensures.listed);
      spread = spread_more c.args.roots.now c.args.places.now c.loop-place.place-index c.args.from.now.number (slice_index c.args.places.now c.loop-place.place-index) c.index-roots-place.result c.args.nets.now c.loop-place.nets c.put_root.new.nets
          c.requires.apart h.0 h.1 c.put_root.ensures.digits c.loop-place.invariant.spread;
    }
