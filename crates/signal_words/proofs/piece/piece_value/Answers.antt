use Rattle.std.proofs.Common.{◌<◌, ◌^◌, subst, sym, ap, ◌∙◌}
use Rattle.circuit.specs.Signal.{piece_number, piece_width}
use Rattle.sim_base.specs.BitValue.{bit_value}
use Rattle.signal_words.specs.Values.{digits_in, IsInside}
use Rattle.signal_words.proofs.Signals.{whole_net}
use Rattle.signal_words.proofs.piece.piece_value.Goals as goal

pub returns-then-width-clause-value : goal.returns-then-width-clause-value
returns-then-width-clause-value c =
    let digits = digits_in c.args.nets.now in
    whole_net c.args.nets.now c.in-Part.net c.in-Part.at c.in-Part.width c.view-value.result (subst (IsInside c.args.nets.now) c.in-Part.is c.requires) c.view-value.ensures
    (c.if-width.true ∙ c.width.ensures.value) (subst (λ w. c.view-value.result.number < 2 ^ w) (sym (c.if-width.true ∙ c.width.ensures.value)) c.width.ensures.below)
    ∙ ap (λ p. bit_value (piece_width p) (piece_number digits p)) (sym c.in-Part.is)
