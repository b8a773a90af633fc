use Rattle.std.proofs.Common.{◌≡◌, ℕ, sym, ◌∙◌, ap, subst, Some}
use Rattle.sim_base.specs.BitValue.{bit_value, hexadecimal_value}
use Rattle.flat_stimulus.proofs.Values.{value_read}
use Rattle.flat_stimulus.proofs.row.read_value.Goals as goal

pub returns-clause-ok : goal.returns-clause-ok
returns-clause-ok c =
    let width : c.in_ok-value.value.width ≡ c.args.width = ap (λ v. v.width) c.in_ok-value.ensures in
    subst (λ (w : ℕ). hexadecimal_value w c.args.word.now ≡ Some (bit_value w c.field.result)) width
    (value_read c.in_ok-value.value.width c.args.word.now c.put_hexadecimal.new.self c.in_ok-value.value c.width-width.result c.field.result
    (sym c.put_hexadecimal.ensures.answer ∙ c.if-not-put_hexadecimal.false) c.put_hexadecimal.ensures.value c.width-width.ensures.value c.field.ensures)
