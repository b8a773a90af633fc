use Rattle.std.proofs.Common.{◌+◌, ◌∷◌, get_or, drop, refl, sym, ap, ◌∙◌}
use Rattle.std.proofs.lemmas.List.{take_rest}
use Rattle.rtlil_lexer.specs.Strings.{unescaped, escape_value, escape_length}
use Rattle.rtlil_lexer.proofs.Escapes.{unescaped_plain, unescaped_escape}
use Rattle.rtlil_lexer.proofs.quoted.character_at.Goals as goal

pub returns-then-byte-ne92-clause-value : goal.returns-then-byte-ne92-clause-value
returns-then-byte-ne92-clause-value c =
    let body = c.args.body.now in
    let at = c.args.at in
    unescaped_plain at (get_or body at 0) body c.requires refl c.if-byte-ne92.true
    ∙ ap (λ b. b ∷ unescaped (drop (at + 1) body)) (sym c.from.ensures)

pub returns-clause-value : goal.returns-clause-value
returns-clause-value c =
    let body = c.args.body.now in
    let at = c.args.at in
    let escape = c.escape_at-escape in
    let whole = take_rest body (at + 1) in
    unescaped_escape at (get_or body at 0) escape.result.length body c.requires refl c.if-byte-ne92.false (escape.ensures.length ∙ ap escape_length whole)
    ∙ ap (λ b. b ∷ unescaped (drop (at + (escape.result.length + 1)) body)) (sym (escape.ensures.value ∙ ap escape_value whole))
