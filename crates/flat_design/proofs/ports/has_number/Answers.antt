use Rattle.std.proofs.Common.{arith, ◌<◌, ◌^◌, sym, ap, ◌∙◌, ℕ, min}
use Rattle.std.proofs.lemmas.Bool.{eq-eqb, ne_eqb}
use Rattle.flat_design.proofs.Numbers.{number_more, number_all, number_low, number_first}
use Rattle.flat_design.proofs.ports.has_number.Goals as goal

pub returns-then-field-number : goal.returns-then-field-number
returns-then-field-number c =
    let d = c.args.digits.now in
    let fits : d.number < 2 ^ d.width = c.width-width.ensures.below in
    let low = c.min-low.ensures ∙ ap (λ (x : ℕ). min x 64) c.width-width.ensures.value in
    sym (ne_eqb d.number c.args.number (λ same. c.if-field-number.true (number_low d.number c.args.number d.width c.min-low.result c.field.result fits (omega arith) low c.field.ensures same)))

pub loop-at-init : goal.loop-at-init
loop-at-init c = (omega arith, number_first c.args.digits.now.number c.args.number c.min-low.result c.field.result c.field.ensures c.if-field-number.false)

pub loop-at-preserved : goal.loop-at-preserved
loop-at-preserved c =
    (omega arith, number_more c.args.digits.now.number c.args.number c.loop-at.at c.min-part.result c.loop-at.invariant.1 (sym c.field-in-loop-at.ensures ∙ c.if-field-ne0.false))

pub returns : goal.returns
returns c =
    let d = c.args.digits.now in
    let fits : d.number < 2 ^ d.width = c.width-width.ensures.below in
    sym (eq-eqb d.number c.args.number (number_all d.number c.args.number c.loop-at.at d.width fits (omega arith) (omega arith) c.loop-at.invariant.1))
