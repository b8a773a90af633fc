-- The chunk's whole record is read.
use Rattle.std.proofs.Common.{◌≡◌, ◌+◌, ◌*◌, ◌<◌, take, drop, ap, sym, ◌∙◌, subst, length, arith}
use Rattle.sim_base.specs.Shape.{words_of_widths}
use Rattle.spool_replay.specs.Standing.{words_through}
use Rattle.spool_replay.proofs.Playing.{begun, begun_standing, standing_room}
use Rattle.spool_replay.proofs.player.Player.begin_chunk.Goals as goal

pub read_whole-self-inside-requires : goal.read_whole-self-inside-requires
read_whole-self-inside-requires c =
    let within : 256 * c.args.chunk < length c.self.inside.view.samples = subst (λ s. 256 * c.args.chunk < length s.recording.samples) (sym c.self.view_is) c.requires in
    let one = begun c.self.inside.view c.args.chunk c.self.invariant.run within in
    omega (arith, one.room, ap length c.chunk.ensures, standing_room _ _ _ _ _ c.self.invariant)

pub invariant_of-self : goal.invariant_of-self
invariant_of-self c =
    let within : 256 * c.args.chunk < length c.self.inside.view.samples = subst (λ s. 256 * c.args.chunk < length s.recording.samples) (sym c.self.view_is) c.requires in
    let long : length c.self.inside.words ≡ words_of_widths c.self.inside.view.widths = standing_room _ _ _ _ _ c.self.invariant in
    let at : c.args.chunk * 256 ≡ 256 * c.args.chunk = omega arith in
    begun_standing c.self.inside.view c.args.chunk c.self.inside.places.items c.read_whole-self-inside.new.words c.first_time-self-inside.result c.read_whole-self-inside.result
    c.self.invariant.run within c.self.invariant.placed
    (c.read_whole-self-inside.ensures.words ∙ ap (λ k. take k (drop 4 c.chunk.result.now)) long ∙ ap (λ w. take (words_of_widths c.self.inside.view.widths) (drop 4 w)) c.chunk.ensures)
    c.first_time-self-inside.ensures (c.read_whole-self-inside.ensures.end ∙ ap (λ k. 4 + k) long) (c.args.chunk * 256) at

pub returns-clause-read : goal.returns-clause-read
returns-clause-read c =
    let within : 256 * c.args.chunk < length c.self.inside.view.samples = subst (λ s. 256 * c.args.chunk < length s.recording.samples) (sym c.self.view_is) c.requires in
    let long : length c.self.inside.words ≡ words_of_widths c.self.inside.view.widths = standing_room _ _ _ _ _ c.self.invariant in
    c.read_whole-self-inside.ensures.end ∙ ap (λ k. 4 + k) long ∙ sym (begun c.self.inside.view c.args.chunk c.self.invariant.run within).read
    ∙ ap (λ s. words_through s.recording (256 * c.args.chunk)) c.self.view_is
