use Rattle.std.proofs.Common.{◌/◌, ◌%◌, ◌^◌, sym, ◌∙◌, ap, subst}
use Rattle.sim_base.specs.BitValue.{BitValue, bit_value}
use Rattle.circuit.specs.Signal.{piece_number, piece_width}
use Rattle.signal_words.specs.Values.{digits_in, IsInside}
use Rattle.sim_base.proofs.Parts.{whole_field}
use Rattle.signal_words.proofs.Signals.{number_read, part_field, same_value}
use Rattle.signal_words.proofs.run.PieceReader.new.Goals as goal

pub returns-in-Const-clause-value : goal.returns-in-Const-clause-value
returns-in-Const-clause-value c =
    let digits = digits_in c.args.nets.now in
    let value = c.in-Const.value in
    ap (λ (v : BitValue). bit_value c.width.result (v.number / 2 ^ 0 % 2 ^ c.width.result)) c.view.ensures
    ∙ same_value c.width.result (piece_width c.args.piece.now) (value.number / 2 ^ 0 % 2 ^ c.width.result) (piece_number digits c.args.piece.now) (c.width.ensures.value ∙ ap piece_width (sym c.in-Const.is))
    (ap (λ w. value.number / 2 ^ 0 % 2 ^ w) c.width.ensures.value ∙ whole_field value.number value.width c.width.ensures.below ∙ ap (piece_number digits) (sym c.in-Const.is))

pub returns-in-Part-clause-value : goal.returns-in-Part-clause-value
returns-in-Part-clause-value c =
    let digits = digits_in c.args.nets.now in
    let h = subst (λ p. IsInside c.args.nets.now p) c.in-Part.is c.requires in
    same_value c.in-Part.width (piece_width c.args.piece.now) (c.view-in-Part.result.number / 2 ^ c.in-Part.at % 2 ^ c.in-Part.width) (piece_number digits c.args.piece.now) (ap piece_width (sym c.in-Part.is))
    (ap (λ n. n / 2 ^ c.in-Part.at % 2 ^ c.in-Part.width) (sym (number_read c.args.nets.now c.in-Part.net c.view-in-Part.result c.view-in-Part.ensures))
    ∙ sym (part_field c.args.nets.now c.in-Part.net c.in-Part.at c.in-Part.width) ∙ ap (piece_number digits) (sym c.in-Part.is))
