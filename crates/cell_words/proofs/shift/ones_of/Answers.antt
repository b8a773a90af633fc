use Rattle.std.proofs.Common.{◌≡◌, ◌-◌, ◌∙◌, sym, ap, arith}
use Rattle.cell_words.specs.Shifts.{extended, source}
use Rattle.cell_words.proofs.Sources.{source_none, source_sshr, source_wider}
use Rattle.cell_words.proofs.shift.ones_of.Goals as goal

pub returns-then-not-negative-clause-source : goal.returns-then-not-negative-clause-source
returns-then-not-negative-clause-source c i h = source_none c.args.op i c.requires h.below (h.negative_is ∙ c.if-not-negative.true)

pub returns-in-Sshr-clause-source : goal.returns-in-Sshr-clause-source
returns-in-Sshr-clause-source c i h =
    ap (λ w. extended w i.a) (sym h.width_is) ∙ source_sshr i h.below (h.negative_is ∙ c.if-not-negative.false) ∙ ap (λ o. source o i) (sym c.in-Sshr.is)

pub returns-in_default : goal.returns-in_default
returns-in_default c = record {
  most = omega (arith, c.saturating_sub.ensures);
  source = λ i h.
      let e : c.saturating_sub.result ≡ i.width - i.a.width = omega (arith, c.saturating_sub.ensures, h.width_is, h.a_width_is) in
      ap (λ w. extended w i.a) e ∙ source_wider c.args.op i c.requires c.in_default.not-Sshr c.in_default.not-Shiftx h.below (h.negative_is ∙ c.if-not-negative.false);
}
