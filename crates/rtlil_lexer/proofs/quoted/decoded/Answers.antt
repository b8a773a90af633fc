use Rattle.std.proofs.Common.{ℕ, List, ◌++◌, sym, ap, ◌∙◌}
use Rattle.std.proofs.lemmas.List.{append-nil}
use Rattle.rtlil_lexer.proofs.Escapes.{unescaped_end}
use Rattle.rtlil_lexer.proofs.quoted.decoded.Goals as goal

pub returns : goal.returns
returns c =
    let front = c.loop-at.bytes.items in
    sym (ap (λ (r : List ℕ). front ++ r) (unescaped_end c.loop-at.at c.args.body.now c.loop-at-test.false) ∙ append-nil front) ∙ c.loop-at.invariant.bytes
