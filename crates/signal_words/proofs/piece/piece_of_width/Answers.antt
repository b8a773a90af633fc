use Rattle.std.proofs.Common.{◌≡◌, ◌^◌, ◌<◌, ℕ, Option, Some, None, List, subst, sym, ◌∙◌, ap}
use Rattle.std.specs.Prelude.{IfSome}
use Rattle.circuit.specs.Signal.{piece_number}
use Rattle.circuit.specs.declared.netlist.Piece.TheVariants as piece
use Rattle.sim_base.specs.BitValue.{BitValue}
use Rattle.sim_base.specs.Values.{number_at, width_at}
use Rattle.signal_words.specs.Values.{digits_in, IsInside}
use Rattle.signal_words.proofs.Signals.{whole_number}
use Rattle.signal_words.proofs.piece.piece_of_width.Goals as goal

whole : (values : List BitValue) (net at w : ℕ) (read : Option ℕ) → IsInside values (piece.Part net at w) → IfSome read (λ x. width_at values net ≡ w) → IfSome read (λ x. x ≡ number_at values net) → IfSome read (λ x. x < 2 ^ w) → IfSome read (λ x. x ≡ piece_number (digits_in values) (piece.Part net at w))
whole values net at w None h same number below = tt
whole values net at w (Some x) h same number below = whole_number values net at w x h same number below

pub returns-in-Part-clause-value : goal.returns-in-Part-clause-value
returns-in-Part-clause-value c =
    let values = c.args.nets.now in
    let w = c.args.width in
    let is = c.in-Part.is ∙ ap (piece.Part c.in-Part.net c.in-Part.at) c.if-part-width.true in
    let r = c.word_of_width.ensures in
    subst (λ p. IfSome c.word_of_width.result (λ x. x ≡ piece_number (digits_in values) p)) (sym is)
    (whole values c.in-Part.net c.in-Part.at w c.word_of_width.result (subst (λ p. IsInside values p) is c.requires.inside) r.width r.value r.below)
