use Rattle.std.proofs.Common.{◌≡◌, ◌++◌, ◌∙◌, sym, ap, arith, Vec, Global, append-nil}
use Rattle.rtlil_lexer.specs.declared.token.Token.{Token}
use Rattle.rtlil_lexer.specs.Tokens.{last_end}
use Rattle.rtlil_lexer.proofs.Steps.{read_end}
use Rattle.rtlil_lexer.proofs.lexer.lex.Goals.{in-Some-last_end+in_ok-push-2, in_default-last_end}
use Rattle.rtlil_lexer.proofs.lexer.lex.Goals as goal

pub returns-clause-tokens : goal.returns-clause-tokens
returns-clause-tokens c =
    let cursor = c.loop-cursor.cursor in
    let front = c.loop-cursor.tokens.items in
    let all : c.match-last_end.tokens.items ≡ front ++ last_end cursor.place = elim c.match-last_end.branch [
      | in-Some-last_end+in_ok-push-2 w ↦ ap (λ (v : Vec Token Global). v.items) w.tokens-is ∙ w.in_ok-push-2.ensures.items ∙ ap (λ end. front ++ end) w.in-Some-last_end.ensures
      | in_default-last_end w ↦ ap (λ (v : Vec Token Global). v.items) w.tokens-is ∙ sym (append-nil front) ∙ ap (λ end. front ++ end) w.in_default-last_end.ensures
    ] in
    c.loop-cursor.invariant.read ∙ read_end front c.match-last_end.tokens.items cursor.place cursor.sound cursor.rest.now (grind (arith, c.loop-cursor-test.false, c.is_empty.ensures)) all
