-- The slot is one of the shape, and its words stand in the chunk.
use Rattle.std.proofs.Common.{◌+◌, drop, ap, sym, ◌∙◌, arith}
use Rattle.spool_replay.proofs.Listed.{passed_at}
use Rattle.spool_replay.proofs.search.pass_slot.Goals as goal

pub bounds-chunk-at : goal.bounds-chunk-at
bounds-chunk-at c = (passed_at c.args.widths.now c.args.chunk.now c.args.at c.requires.listed c.requires.within).there

pub bounds-widths-chunk : goal.bounds-widths-chunk
bounds-widths-chunk c = (passed_at c.args.widths.now c.args.chunk.now c.args.at c.requires.listed c.requires.within).known

pub returns-clause-behind : goal.returns-clause-behind
returns-clause-behind c =
    let s = passed_at c.args.widths.now c.args.chunk.now c.args.at c.requires.listed c.requires.within in
    ap (λ k. drop (c.args.at + 1 + k) c.args.chunk.now) c.div_ceil.ensures ∙ sym s.behind

pub returns-clause-within : goal.returns-clause-within
returns-clause-within c =
    let s = passed_at c.args.widths.now c.args.chunk.now c.args.at c.requires.listed c.requires.within in
    omega (arith, s.fits)
