use Rattle.std.proofs.Common.{◌/◌, ◌%◌, ◌^◌, sym, ◌∙◌, ap, subst}
use Rattle.circuit.specs.Signal.{digits_of_nets, piece_number}
use Rattle.flat_rounds.specs.Word.{IsWordPiece}
use Rattle.flat_rounds.proofs.Words.{whole_field}
use Rattle.flat_rounds.proofs.Reading.{part_number}
use Rattle.flat_rounds.proofs.word.piece_word.Goals as goal

pub returns-in-Const-clause-value : goal.returns-in-Const-clause-value
returns-in-Const-clause-value c =
    c.field.ensures ∙ ap (λ w. c.in-Const.v.number / 2 ^ 0 % 2 ^ w) c.width-width.ensures.value
    ∙ whole_field c.in-Const.v.number c.in-Const.v.width c.width-width.ensures.below
    ∙ ap (piece_number (digits_of_nets c.args.nets.now)) (sym c.in-Const.is)

pub returns-in-Part-clause-value : goal.returns-in-Part-clause-value
returns-in-Part-clause-value c =
    let h = subst (λ p. IsWordPiece c.args.nets.now p) c.in-Part.is c.requires in
    part_number c.args.nets.now c.in-Part.net c.in-Part.at c.in-Part.width h.0 h.2
    ∙ ap (piece_number (digits_of_nets c.args.nets.now)) (sym c.in-Part.is)
