use Rattle.std.proofs.Common.{ap, ◌≡◌, ◌∙◌, codes, true, false}
use Rattle.std.proofs.lemmas.Result.{IfOk-weaker}
use Rattle.clap.specs.Words.{App, Rule, with_rule}
use Rattle.command_words.specs.Line.{option, positional}
use Rattle.command_words.proofs.line.line.Goals as goal

-- the same rule behind the same line
add : {a b : App} (r : Rule) → a ≡ b → with_rule a r ≡ with_rule b r
add r e = ap (λ (a : App). with_rule a r) e

pub returns : goal.returns
returns c =
    let mode = c.in_ok-command.ensures ∙ add (positional (codes "MODE") true) c.bare.ensures in
    let number = c.in_ok-command-2.ensures ∙ add (positional (codes "NUMBER") false) mode in
    let design = c.in_ok-command-3.ensures ∙ add (option (codes "design")) number in
    let stimulus = c.in_ok-command-4.ensures ∙ add (option (codes "stimulus")) design in
    IfOk-weaker c.with_option-3.result _ _ (λ r e. e ∙ add (option (codes "top")) stimulus) c.with_option-3.ensures
