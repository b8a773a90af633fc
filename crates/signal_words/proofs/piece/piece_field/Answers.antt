use Rattle.std.proofs.Common.{◌+◌, ◌/◌, ◌%◌, ◌^◌, subst, sym, ◌∙◌, ap}
use Rattle.circuit.specs.Signal.{piece_number, piece_width}
use Rattle.sim_base.specs.Values.{numbers}
use Rattle.signal_words.specs.Values.{digits_in, IsInside}
use Rattle.std.proofs.Common.{◌≤◌, get_or}
use Rattle.sim_base.proofs.Parts.{field_of_field}
use Rattle.signal_words.proofs.Signals.{number_read, part_field}
use Rattle.signal_words.proofs.piece.piece_field.Goals as goal

pub returns-in-Part : goal.returns-in-Part
returns-in-Part c =
    let h = subst (λ p. IsInside c.args.nets.now p) c.in-Part.is c.requires.inside in
    let le = subst (λ p. c.args.at + c.args.n ≤ piece_width p) c.in-Part.is c.requires.within in
    c.field-in-Part.ensures
    ∙ ap (λ x. x / 2 ^ (c.in-Part.first + c.args.at) % 2 ^ c.args.n) (sym (number_read c.args.nets.now c.in-Part.net c.view-value.result c.view-value.ensures))
    ∙ sym (field_of_field (get_or (numbers c.args.nets.now) c.in-Part.net 0) c.in-Part.first c.in-Part.width c.args.at c.args.n le)
    ∙ ap (λ x. x / 2 ^ c.args.at % 2 ^ c.args.n) (sym (part_field c.args.nets.now c.in-Part.net c.in-Part.first c.in-Part.width))
    ∙ ap (λ p. piece_number (digits_in c.args.nets.now) p / 2 ^ c.args.at % 2 ^ c.args.n) (sym c.in-Part.is)
