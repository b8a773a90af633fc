-- The next record is read.
use Rattle.std.proofs.Common.{◌≢◌, ◌+◌, ◌%◌, ◌<◌, ap, sym, ◌∙◌, subst, length, arith}
use Rattle.spool_replay.specs.Standing.{words_through}
use Rattle.spool_replay.proofs.Playing.{advanced, next_there}
use Rattle.spool_replay.proofs.player.Player.advance.Goals as goal

pub read_change-self-inside-requires-clause-there : goal.read_change-self-inside-requires-clause-there
read_change-self-inside-requires-clause-there c =
    let more : c.self.inside.at + 1 < length c.self.inside.view.samples = subst (λ s. s.at + 1 < length s.recording.samples) (sym c.self.view_is) c.requires.there in
    let within : (c.self.inside.at + 1) % 256 ≢ 0 = subst (λ s. (s.at + 1) % 256 ≢ 0) (sym c.self.view_is) c.requires.within in
    (next_there c.self.inside.view c.self.inside.at _ _ _ _ c.self.invariant more within c.chunk-chunk.result.now c.widths.result.now c.chunk-chunk.ensures (c.widths.ensures ∙ c.shape.ensures)).change

pub overflow_sub-result : goal.overflow_sub-result
overflow_sub-result c =
    let more : c.self.inside.at + 1 < length c.self.inside.view.samples = subst (λ s. s.at + 1 < length s.recording.samples) (sym c.self.view_is) c.requires.there in
    let within : (c.self.inside.at + 1) % 256 ≢ 0 = subst (λ s. (s.at + 1) % 256 ≢ 0) (sym c.self.view_is) c.requires.within in
    let there = next_there c.self.inside.view c.self.inside.at _ _ _ _ c.self.invariant more within c.chunk-chunk.result.now c.widths.result.now c.chunk-chunk.ensures (c.widths.ensures ∙ c.shape.ensures) in
    let end = there.ends c.read_change-self-inside.result c.read_change-self-inside.ensures.within c.read_change-self-inside.ensures.behind in
    let five = there.more in
    omega (arith, end, five)

pub invariant_of-self : goal.invariant_of-self
invariant_of-self c =
    let more : c.self.inside.at + 1 < length c.self.inside.view.samples = subst (λ s. s.at + 1 < length s.recording.samples) (sym c.self.view_is) c.requires.there in
    let within : (c.self.inside.at + 1) % 256 ≢ 0 = subst (λ s. (s.at + 1) % 256 ≢ 0) (sym c.self.view_is) c.requires.within in
    advanced c.self.inside.view c.self.inside.at _ _ _ _ c.self.invariant more within c.chunk-chunk.result.now c.widths.result.now c.chunk-chunk.ensures (c.widths.ensures ∙ c.shape.ensures)
    c.read_change-self-inside.new.words c.time_or_zero-self-inside.result c.read_change-self-inside.result c.read_change-self-inside.ensures.words c.time_or_zero-self-inside.ensures
    c.read_change-self-inside.ensures.behind c.read_change-self-inside.ensures.within

pub returns-clause-read : goal.returns-clause-read
returns-clause-read c =
    let more : c.self.inside.at + 1 < length c.self.inside.view.samples = subst (λ s. s.at + 1 < length s.recording.samples) (sym c.self.view_is) c.requires.there in
    let within : (c.self.inside.at + 1) % 256 ≢ 0 = subst (λ s. (s.at + 1) % 256 ≢ 0) (sym c.self.view_is) c.requires.within in
    let there = next_there c.self.inside.view c.self.inside.at _ _ _ _ c.self.invariant more within c.chunk-chunk.result.now c.widths.result.now c.chunk-chunk.ensures (c.widths.ensures ∙ c.shape.ensures) in
    let end = there.ends c.read_change-self-inside.result c.read_change-self-inside.ensures.within c.read_change-self-inside.ensures.behind in
    let five = there.more in
    let before = ap (λ s. words_through s.recording s.at) c.self.view_is in
    let after = ap (λ s. words_through s.recording (s.at + 1)) c.self.view_is in
    omega (arith, end, five, before, after, c.self.invariant.read)
