-- The words of a slot stand at its place.
use Rattle.std.proofs.Common.{◌≡◌, ◌+◌, ◌-◌, ◌<◌, take, drop, get_or, ap, sym, refl, ◌∙◌, subst, length, arith}
use Rattle.sim_base.specs.Shape.{words_of_width}
use Rattle.spool_format.specs.Reading.{sample_at}
use Rattle.spool_format.specs.Records.{slot_words}
use Rattle.spool_replay.proofs.Playing.{slot_fits, slot_shown}
use Rattle.spool_replay.proofs.player.Player.words.Goals as goal

pub index-place-requires : goal.index-place-requires
index-place-requires c =
    let known : c.args.slot < length c.self.inside.view.widths = subst (λ s. c.args.slot < length s.recording.widths) (sym c.self.view_is) c.requires in
    let fits = slot_fits _ _ _ _ _ c.self.invariant c.args.slot (get_or c.self.inside.places.items c.args.slot 0) (words_of_width (get_or c.self.inside.view.widths c.args.slot 0)) 0 known refl refl in
    omega (arith, fits.0)

pub overflow_add-result : goal.overflow_add-result
overflow_add-result c =
    let known : c.args.slot < length c.self.inside.view.widths = subst (λ s. c.args.slot < length s.recording.widths) (sym c.self.view_is) c.requires in
    let room : c.words_of-room.result ≡ words_of_width (get_or c.self.inside.view.widths c.args.slot 0) =
    c.words_of-room.ensures ∙ ap (λ ws. words_of_width (get_or ws c.args.slot 0)) c.shape.ensures in
    let fits = slot_fits _ _ _ _ _ c.self.invariant c.args.slot c.index-place.result.now c.words_of-room.result c.index-place.result.now known c.index-place.ensures room in
    let long = ap length c.as_slice.ensures in
    omega (arith, fits.2, long)

pub offset_bounds-as_slice-place : goal.offset_bounds-as_slice-place
offset_bounds-as_slice-place c =
    let known : c.args.slot < length c.self.inside.view.widths = subst (λ s. c.args.slot < length s.recording.widths) (sym c.self.view_is) c.requires in
    let room : c.words_of-room.result ≡ words_of_width (get_or c.self.inside.view.widths c.args.slot 0) =
    c.words_of-room.ensures ∙ ap (λ ws. words_of_width (get_or ws c.args.slot 0)) c.shape.ensures in
    let fits = slot_fits _ _ _ _ _ c.self.invariant c.args.slot c.index-place.result.now c.words_of-room.result c.index-place.result.now known c.index-place.ensures room in
    let long = ap length c.as_slice.ensures in
    omega (arith, fits.2, long)

pub slice_bounds-result-end : goal.slice_bounds-result-end
slice_bounds-result-end c =
    let known : c.args.slot < length c.self.inside.view.widths = subst (λ s. c.args.slot < length s.recording.widths) (sym c.self.view_is) c.requires in
    let room : c.words_of-room.result ≡ words_of_width (get_or c.self.inside.view.widths c.args.slot 0) =
    c.words_of-room.ensures ∙ ap (λ ws. words_of_width (get_or ws c.args.slot 0)) c.shape.ensures in
    let fits = slot_fits _ _ _ _ _ c.self.invariant c.args.slot c.index-place.result.now c.words_of-room.result c.index-place.result.now known c.index-place.ensures room in
    let long = ap length c.as_slice.ensures in
    omega (arith, fits.2, long)

pub returns : goal.returns
returns c =
    let known : c.args.slot < length c.self.inside.view.widths = subst (λ s. c.args.slot < length s.recording.widths) (sym c.self.view_is) c.requires in
    let room : c.words_of-room.result ≡ words_of_width (get_or c.self.inside.view.widths c.args.slot 0) =
    c.words_of-room.ensures ∙ ap (λ ws. words_of_width (get_or ws c.args.slot 0)) c.shape.ensures in
    let fits = slot_fits _ _ _ _ _ c.self.invariant c.args.slot c.index-place.result.now c.words_of-room.result c.index-place.result.now known c.index-place.ensures room in
    ap (λ w. take (c.index-place.result.now + c.words_of-room.result - c.index-place.result.now) (drop c.index-place.result.now w)) (c.as_slice.ensures ∙ c.self.invariant.shown)
    ∙ slot_shown c.self.inside.view.widths (sample_at c.self.inside.view.samples c.self.inside.at).words c.args.slot c.index-place.result.now c.words_of-room.result fits.1 room
    ∙ ap (λ s. slot_words s.recording.widths (sample_at s.recording.samples s.at).words c.args.slot) c.self.view_is
