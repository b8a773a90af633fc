use Rattle.std.proofs.Common.{◌+◌, ◌-◌, ◌<◌, ◌≤◌, ◌^◌, sym, ◌∙◌, ap, arith, lit<}
use Rattle.std.proofs.Math.Nat.{mod-eq_of_lt, pow-le-pow_right}
use Rattle.std.specs.Int.{bit_at}
use Rattle.std.specs.Prelude.{◌==◌}
use Rattle.cell_wide.proofs.Narrow.{plain_operand, negative_operand, both, neither_left, neither_right}
use Rattle.cell_wide.proofs.word.longer.Goals as goal
use Rattle.cell_wide.proofs.word.longer.Goals.{else-signed-via-then-signed+else-is_negative, else-signed-via-else-signed}

pub overflow_sub-result : goal.overflow_sub-result
overflow_sub-result c =
    let p : 2 ^ c.args.width ≤ 2 ^ c.args.to = pow-le-pow_right {n = 2} (lit< tt) {i = c.args.width} {j = c.args.to} (omega (arith, c.requires.longer)) in
    omega (arith, p, c.ones_word.ensures, c.ones_word-then-is_negative.ensures)

pub returns-then-is_negative : goal.returns-then-is_negative
returns-then-is_negative c =
    let p : 2 ^ c.args.width ≤ 2 ^ c.args.to = pow-le-pow_right {n = 2} (lit< tt) {i = c.args.width} {j = c.args.to} (omega (arith, c.requires.longer)) in
    let lt : c.args.number < 2 ^ c.args.to = omega (arith, c.requires.below, p) in
    ap (λ x. c.args.number + (x - c.ones_word-then-is_negative.result)) c.ones_word.ensures
    ∙ ap (λ x. c.args.number + ((2 ^ c.args.to - 1) - x)) c.ones_word-then-is_negative.ensures
    ∙ ap (λ x. x + ((2 ^ c.args.to - 1) - (2 ^ c.args.width - 1))) (sym (mod-eq_of_lt lt))
    ∙ negative_operand c.args.signed c.args.number c.args.width c.args.to c.requires.below c.requires.longer
    (both c.args.signed (bit_at c.args.number (c.args.width - 1) == 1) c.if-signed.true (sym c.is_negative.ensures ∙ c.if-is_negative.true))

pub returns-else-signed : goal.returns-else-signed
returns-else-signed c =
    let p : 2 ^ c.args.width ≤ 2 ^ c.args.to = pow-le-pow_right {n = 2} (lit< tt) {i = c.args.width} {j = c.args.to} (omega (arith, c.requires.longer)) in
    let lt : c.args.number < 2 ^ c.args.to = omega (arith, c.requires.below, p) in
    sym (mod-eq_of_lt lt)
    ∙ elim c.else-signed.branch [
      | else-signed-via-then-signed+else-is_negative w ↦
          plain_operand c.args.signed c.args.number c.args.width c.args.to (neither_right c.args.signed (bit_at c.args.number (c.args.width - 1) == 1) (sym w.is_negative.ensures ∙ w.if-is_negative.false))
      | else-signed-via-else-signed w ↦ plain_operand c.args.signed c.args.number c.args.width c.args.to (neither_left c.args.signed (bit_at c.args.number (c.args.width - 1) == 1) w.if-signed.false)
    ]
