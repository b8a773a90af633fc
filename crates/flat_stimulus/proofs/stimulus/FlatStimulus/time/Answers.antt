use Rattle.std.proofs.Common.{◌*◌, ◌<◌, ◌∙◌, length, subst, sym}
use Rattle.flat_stimulus.specs.Block.{Block, sample_count}
use Rattle.flat_stimulus.proofs.Facts.{time_there}
use Rattle.flat_stimulus.proofs.stimulus.FlatStimulus.time.Goals as goal

pub unwrap-requires : goal.unwrap-requires
unwrap-requires c =
    let there : c.args.k < c.self.inside.repeats * length c.self.inside.rows = subst (λ (b : Block). c.args.k < sample_count b) (sym c.self.view_is) c.requires in
    let e = time_there c.self.inside.rows c.self.inside.repeats c.self.inside.period c.args.k c.len-count.result c.from.result c.femtoseconds.result c.femtoseconds-2.result c.index-as_slice-k.result c.as_slice.result.now
    c.len-count.ensures c.as_slice.ensures c.self.invariant.some there c.self.invariant.ends c.self.invariant.before c.index-as_slice-k.is c.from.ensures c.femtoseconds.ensures.value c.femtoseconds-2.ensures.value in
    rw (c.of.ensures ∙ e)
