-- The chunks that begin before the time, and the samples of the last of these that are before it.
use Rattle.std.proofs.Common.{◌+◌, ◌-◌, ◌*◌, ◌^◌, ◌<◌, ltb, length, ap, ◌∙◌, arith}
use Rattle.std.specs.List.{count_by}
use Rattle.std.specs.Int.{div_ceil}
use Rattle.spool_format.specs.Records.{times}
use Rattle.spool_format.proofs.KeptOn.{chunk_length}
use Rattle.spool_replay.specs.Standing.{words_of_chunk}
use Rattle.spool_replay.proofs.Searched.{first_number, none_before}
use Rattle.spool_replay.proofs.player.Player.first_at.Goals as goal

pub returns-then-chunks-eq0-clause-number : goal.returns-then-chunks-eq0-clause-number
returns-then-chunks-eq0-clause-number g c =
    none_before c.self.inside.view c.args.t c.chunks_before-chunks.result c.count-samples.ensures.run c.if-chunks-eq0.true c.chunks_before-chunks.ensures.behind
    ∙ ap (λ s. count_by (λ x. ltb x c.args.t) (times s.recording.samples)) c.self.view_is

pub overflow_add-result : goal.overflow_add-result
overflow_add-result g c =
    let few = chunk_length c.self.inside.view.samples (c.chunks_before-chunks.result - 1) in
    omega (arith, few, c.samples_before-behind.ensures.within, c.count-samples.ensures.value, c.chunks_before-chunks.ensures.within)

pub returns-clause-number : goal.returns-clause-number
returns-clause-number g c =
    let some : 0 < c.chunks_before-chunks.result = omega (arith, c.if-chunks-eq0.false) in
    (first_number c.self.inside.view c.args.t c.chunks_before-chunks.result c.samples_before-behind.result c.count-samples.ensures.run some c.chunks_before-chunks.ensures.within
    c.chunks_before-chunks.ensures.behind c.samples_before-behind.ensures.some c.samples_before-behind.ensures.within c.samples_before-behind.ensures.before c.samples_before-behind.ensures.behind).0
    ∙ ap (λ s. count_by (λ x. ltb x c.args.t) (times s.recording.samples)) c.self.view_is

pub returns-clause-steps : goal.returns-clause-steps
returns-clause-steps g c p h =
    let some : 0 < c.chunks_before-chunks.result = omega (arith, c.if-chunks-eq0.false) in
    let found = (first_number c.self.inside.view c.args.t c.chunks_before-chunks.result c.samples_before-behind.result c.count-samples.ensures.run some c.chunks_before-chunks.ensures.within
    c.chunks_before-chunks.ensures.behind c.samples_before-behind.ensures.some c.samples_before-behind.ensures.within c.samples_before-behind.ensures.before c.samples_before-behind.ensures.behind).1 in
    let few : div_ceil (length c.self.inside.view.samples) 256 < 2 ^ p =
    omega (arith, h, ap (λ s. div_ceil (length s.recording.samples) 256) c.self.view_is) in
    let looks = c.chunks_before-chunks.ensures.steps p few in
    let words = ap (λ s. words_of_chunk s.recording ((c.chunks_before-chunks.result - 1) * 256 + c.samples_before-behind.result - 1)) c.self.view_is in
    omega (arith, looks, found, words, c.samples_before-behind.ensures.steps)
