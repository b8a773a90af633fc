use Rattle.std.proofs.Common.{arith, ◌≡◌, ◌<◌, ◌≤◌, ◌+◌, ◌/◌, ◌%◌, get_or, ◌∙◌, refl}
use Rattle.sim_base.proofs.Field.{field_number}
use Rattle.sim_base.proofs.bits.field_of.Goals as goal
use Rattle.sim_base.proofs.bits.field_of.Goals.{then-off-n-gt64, else-off-n-gt64}

pub returns : goal.returns
returns c =
    let high : 64 < c.args.at % 64 + c.args.n → c.if-off-n-gt64.high ≡ get_or c.args.words.now (c.args.at / 64 + 1) 0 = λ more.
    elim c.if-off-n-gt64.branch [
      | then-off-n-gt64 w ↦ w.high-is
      | else-off-n-gt64 w ↦ absurd (let no : c.args.at % 64 + c.args.n ≤ 64 = w.if-off-n-gt64.false in omega arith)
    ] in
    c.low_digits.ensures
    ∙ field_number c.args.words.now c.args.at c.args.n _ c.if-off-n-gt64.high c.joined.result c.requires.fit c.requires.small refl high c.joined.ensures
