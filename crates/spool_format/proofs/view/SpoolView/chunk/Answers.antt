-- A full chunk, or the one that grows.
use Rattle.std.proofs.Common.{◌<◌, ap, sym, ◌∙◌, length, subst}
use Rattle.std.specs.Arc.{arc_value}
use Rattle.std.specs.Int.{div_ceil}
use Rattle.spool_format.specs.Kept.{recording_of}
use Rattle.spool_format.specs.Records.{chunk_samples, chunk_words}
use Rattle.spool_format.proofs.KeptOn.{chunk_there, chunk_last}
use Rattle.spool_format.proofs.view.SpoolView.chunk.Goals as goal

pub returns-in-Some : goal.returns-in-Some
returns-in-Some c =
    let r = recording_of (arc_value c.self.inside.shape) c.self.inside.full c.self.inside.growing in
    c.in-Some.ensures.some.1 ∙ chunk_there r c.self.inside.full c.self.inside.growing c.self.invariant.0 c.args.n c.in-Some.ensures.some.0
    ∙ ap (λ v. chunk_words v.widths (chunk_samples v.samples c.args.n)) c.self.view_is

pub returns-in-None : goal.returns-in-None
returns-in-None c =
    let r = recording_of (arc_value c.self.inside.shape) c.self.inside.full c.self.inside.growing in
    let within : c.args.n < div_ceil (length r.samples) 256 = subst (λ v. c.args.n < div_ceil (length v.samples) 256) (sym c.self.view_is) c.requires in
    c.as_slice.ensures ∙ chunk_last r c.self.inside.full c.self.inside.growing c.self.invariant.0 c.args.n c.in-None.ensures.none within
    ∙ ap (λ v. chunk_words v.widths (chunk_samples v.samples c.args.n)) c.self.view_is
