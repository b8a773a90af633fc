use Rattle.std.proofs.Common.{◌≡◌, ◌∙◌, List, refl, sym, ap}
use Rattle.std.specs.Prelude.{◌==◌}
use Rattle.std.proofs.lemmas.Bool.{eqb-true, not-false}
use Rattle.sim_base.specs.BitValue.{BitValue, bit_value, digit_after_copy}
use Rattle.sim_base.specs.Values.{number_at, value_at, width_at, widths, with_number}
use Rattle.sim_base.proofs.Held.{widths_kept}
use Rattle.sim_base.proofs.Written.{put_same}
use Rattle.signal_words.specs.Values.{digits_in}
use Rattle.eval_commit.proofs.Written.{put_digits, viewed}
use Rattle.eval_commit.proofs.put.put.Goals as goal

pub returns-clause-widths : goal.returns-clause-widths
returns-clause-widths c = ap widths c.copy.ensures.value ∙ widths_kept c.args.nets.now c.args.root.now.net (number_at c.copy.new.self c.args.root.now.net)

pub returns-clause-digits : goal.returns-clause-digits
returns-clause-digits c x =
    let old = c.args.nets.now in
    let net = c.args.root.now.net in
    let number = number_at c.copy.new.self net in
    ap (λ (l : List BitValue). digits_in l x.0 x.1) c.copy.ensures.value
    ∙ put_digits old c.args.root.now (value_at old net) (bit_value (width_at old net) number) c.args.from.now.number (viewed old net (value_at old net) c.requires.inside.0 refl)
    (λ j. c.copy.ensures.bits j ∙ ap (λ n. digit_after_copy c.args.root.now.at c.args.from.now.number n c.args.root.now.width (number_at old net) j) c.offset.ensures) x

pub returns-clause-same : goal.returns-clause-same
returns-clause-same c e =
    let old = c.args.nets.now in
    let net = c.args.root.now.net in
    let number = number_at c.copy.new.self net in
    let equal : number ≡ number_at old net = eqb-true number (number_at old net) (not-false (number == number_at old net) (sym c.copy.ensures.changed ∙ e)) in
    c.copy.ensures.value ∙ ap (with_number old net) equal ∙ sym (put_same old net (number_at old net) refl).value
