use Rattle.std.proofs.Common.{◌≡◌, ◌/◌, ◌%◌, ◌^◌, ◌<◌, subst, sym, ◌∙◌, ap}
use Rattle.std.specs.Prelude.{IfSome}
use Rattle.circuit.specs.Signal.{piece_number}
use Rattle.sim_base.specs.Values.{number_at, width_at}
use Rattle.signal_words.specs.Values.{digits_in, IsInside}
use Rattle.signal_words.proofs.Signals.{number_read, part_field, whole_number}
use Rattle.signal_words.proofs.piece.piece_word.Goals as goal

pub returns-in-Some-clause-value : goal.returns-in-Some-clause-value
returns-in-Some-clause-value c =
    let w = c.in-Part.width in
    let r = c.word_of_width.ensures in
    let is = c.in-Some.is in
    whole_number c.args.nets.now c.in-Part.net c.in-Part.at w c.in-Some.word (subst (λ p. IsInside c.args.nets.now p) c.in-Part.is c.requires.inside)
    (subst (λ o. IfSome o (λ x. width_at c.args.nets.now c.in-Part.net ≡ w)) is r.width)
    (subst (λ o. IfSome o (λ x. x ≡ number_at c.args.nets.now c.in-Part.net)) is r.value)
    (subst (λ o. IfSome o (λ x. x < 2 ^ w)) is r.below)
    ∙ ap (piece_number (digits_in c.args.nets.now)) (sym c.in-Part.is)

pub returns-in-None-clause-value : goal.returns-in-None-clause-value
returns-in-None-clause-value c =
    c.field.ensures
    ∙ ap (λ n. n / 2 ^ c.in-Part.at % 2 ^ c.in-Part.width) (sym (number_read c.args.nets.now c.in-Part.net c.view.result c.view.ensures))
    ∙ sym (part_field c.args.nets.now c.in-Part.net c.in-Part.at c.in-Part.width)
    ∙ ap (piece_number (digits_in c.args.nets.now)) (sym c.in-Part.is)
