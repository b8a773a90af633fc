use Rattle.std.proofs.Common.{◌≡◌, length, arith, ℕ, zero, suc, ◌≤◌, refl}
use Rattle.stimulus_text.proofs.FirstLines.{return_short, return_dropped, return_kept}
use Rattle.stimulus_text.proofs.lines.without_return.Goals as goal

none_short : (n : ℕ) → (1 ≤ n → ⊥) → n ≡ 0
none_short zero h = refl
none_short (suc n) h = absurd (h (omega arith))

pub returns-in_default : goal.returns-in_default
returns-in_default c =
    let none : length c.args.line.now ≡ 0 = none_short (length c.args.line.now) c.in_default.ensures in
    return_short c.args.line.now none

pub returns-then-line-last-eq13 : goal.returns-then-line-last-eq13
returns-then-line-last-eq13 c = return_dropped c.args.line.now c.in-Some.last (omega arith) c.if-line-last-eq13.true

pub returns-else-line-last-eq13 : goal.returns-else-line-last-eq13
returns-else-line-last-eq13 c = return_kept c.args.line.now c.in-Some.last (omega arith) c.if-line-last-eq13.false
