use Rattle.std.proofs.Common.{◌≡◌, ◌-◌, ℕ, ap, min, ◌∙◌}
use Rattle.std.specs.Int.{bit_at}
use Rattle.sim_base.specs.BitValue.{bit_value, digit_after_copy}
use Rattle.rtlil_signals.proofs.Digits.{copied_part}
use Rattle.rtlil_signals.proofs.value.bits_part.Goals as goal

pub returns : goal.returns
returns c =
    let whole = c.args.whole.now in
    let from : c.min-from.result ≡ min c.args.at whole.width = c.min-from.ensures ∙ ap (min c.args.at) c.width.ensures.value in
    let there : c.min-there.result ≡ min (whole.width - c.min-from.result) c.args.width = c.min-there.ensures ∙ ap (λ k. min (k - c.min-from.result) c.args.width) c.width-2.ensures.value in
    let zeros : c.in_ok-bits.bits ≡ bit_value c.args.width 0 = c.in_ok-bits.ensures in
    let bits : (j : ℕ) → bit_at c.copy.new.self.number j ≡ digit_after_copy 0 whole.number c.min-from.result c.min-there.result 0 j = λ j. c.copy.ensures.bits j ∙ ap (λ v. digit_after_copy 0 whole.number c.min-from.result c.min-there.result v.number j) zeros in
    let number = copied_part whole.number whole.width c.args.at c.args.width c.min-from.result c.min-there.result c.copy.new.self.number c.width.ensures.below from there bits in
    let width : c.copy.new.self.width ≡ c.args.width = c.copy.ensures.width ∙ ap (λ v. v.width) zeros in
    ap (λ w. bit_value w c.copy.new.self.number) width ∙ ap (bit_value c.args.width) number
