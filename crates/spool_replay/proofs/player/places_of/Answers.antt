-- The next slot begins behind the words of this one.
use Rattle.std.proofs.Common.{◌<◌, ◌++◌, ◌∷◌, [], map, get_or, length, ap, sym, ◌∙◌, arith}
use Rattle.std.specs.List.{range_with_len}
use Rattle.sim_base.specs.Shape.{words_of_width}
use Rattle.spool_format.specs.Records.{place_of}
use Rattle.spool_format.proofs.KeptOn.{map_push}
use Rattle.spool_format.proofs.Slots.{place_next}
use Rattle.spool_replay.proofs.player.places_of.Goals as goal

pub loop-width-preserved : goal.loop-width-preserved
loop-width-preserved c =
    let ws = c.args.shape.now in
    let i = c.loop-width.width-index in
    let within : i < length c.args.shape.now = omega (arith, ap length c.widths-widths.ensures) in
    let next = place_next c.args.shape.now c.loop-width.width-index within in
    let width = ap (λ xs. words_of_width (get_or xs c.loop-width.width-index 0)) c.widths-widths.ensures in
    record {
      places = c.in_ok-push.ensures.items ∙ ap (λ xs. xs ++ c.loop-width.place ∷ []) c.loop-width.invariant.places
          ∙ ap (λ p. map (place_of ws) (range_with_len 0 i) ++ p ∷ []) c.loop-width.invariant.place ∙ sym (map_push (place_of ws) i);
      place = omega (arith, next, width, c.div_ceil.ensures, c.loop-width.invariant.place);
    }
