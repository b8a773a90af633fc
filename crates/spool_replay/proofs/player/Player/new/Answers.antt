-- The first chunk's whole record is read.
use Rattle.std.proofs.Common.{◌≡◌, ◌+◌, take, drop, ap, refl, ◌∙◌, length, arith}
use Rattle.sim_base.specs.Shape.{words_of_widths}
use Rattle.spool_replay.specs.Standing.{places_of}
use Rattle.spool_replay.proofs.Playing.{begun, begun_standing}
use Rattle.spool_replay.proofs.player.Player.new.Goals as goal

pub read_whole-next-requires : goal.read_whole-next-requires
read_whole-next-requires c =
    let one = begun c.args.view 0 c.count-samples.ensures.run (omega arith) in
    omega (arith, one.room, ap length c.chunk.ensures, c.in_ok-words.ensures, ap words_of_widths c.shape-2.ensures)

pub invariant_of-result : goal.invariant_of-result
invariant_of-result c =
    let long : length c.in_ok-words.words ≡ words_of_widths c.args.view.widths = c.in_ok-words.ensures ∙ ap words_of_widths c.shape-2.ensures in
    begun_standing c.args.view 0 c.in_ok-places.places.items c.read_whole-next.new.words c.first_time-time.result c.read_whole-next.result c.count-samples.ensures.run (omega arith)
    (c.in_ok-places.ensures ∙ ap places_of c.shape.ensures)
    (c.read_whole-next.ensures.words ∙ ap (λ k. take k (drop 4 c.chunk.result.now)) long ∙ ap (λ w. take (words_of_widths c.args.view.widths) (drop 4 w)) c.chunk.ensures)
    c.first_time-time.ensures (c.read_whole-next.ensures.end ∙ ap (λ k. 4 + k) long) 0 refl
