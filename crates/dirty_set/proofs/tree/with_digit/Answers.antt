use Rattle.std.proofs.Common.{◌≡◌, true, false, ◌∙◌, ap, sym}
use Rattle.sim_base.specs.BitValue.{digit_after_set, digit_of}
use Rattle.sim_base.proofs.Words.{set_digit, clear_digit}
use Rattle.dirty_set.proofs.tree.with_digit.Goals as goal

pub returns-then-v : goal.returns-then-v
returns-then-v c j h =
    let v : c.args.v ≡ true = c.if-v.true in
    set_digit c.args.word c.args.at j c.requires ∙ ap (λ b. digit_after_set c.args.at (digit_of b) c.args.word j) (sym v)

pub returns-else-v : goal.returns-else-v
returns-else-v c j h =
    let v : c.args.v ≡ false = c.if-v.false in
    clear_digit c.args.word c.args.at j c.requires h ∙ ap (λ b. digit_after_set c.args.at (digit_of b) c.args.word j) (sym v)
