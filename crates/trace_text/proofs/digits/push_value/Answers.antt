use Rattle.std.proofs.Common.{◌++◌, ◌∷◌, [], ◌∙◌, ap}
use Rattle.trace_text.proofs.Numerals.{value_of_none}
use Rattle.trace_text.proofs.digits.push_value.Goals as goal

pub returns-then-digits-eq0 : goal.returns-then-digits-eq0
returns-then-digits-eq0 c =
    c.in_ok-push-2.ensures.items ∙ ap (λ text. text ++ 48 ∷ []) c.in_ok-push.ensures.items
    ∙ value_of_none c.args.text.now.items c.args.width c.args.words.now c.requires c.if-digits-eq0.true
