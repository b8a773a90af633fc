use Rattle.std.proofs.Common.{ap, ◌+◌, ◌∙◌, length}
use Rattle.rtlil_lexer.specs.Pieces.{constant_first}
use Rattle.rtlil_lexer.proofs.ConstantTexts.{same_read, constant_read}
use Rattle.rtlil_lexer.proofs.piece.constant_at.Goals as goal

pub constant_of-requires-clause-quoted : goal.constant_of-requires-clause-quoted
constant_of-requires-clause-quoted c =
    (same_read c.args.text.now c.args.width c.sign_length-sign.result c.leading_constant_digits-digits.result.now (record {
      at = c.requires.width;
      within = c.requires.within;
      quote = c.requires.quote;
      signed = c.sign_length-sign.ensures.value;
      read = c.leading_constant_digits-digits.ensures.value;
    })).quoted

pub constant_of-requires-clause-each : goal.constant_of-requires-clause-each
constant_of-requires-clause-each c =
    (same_read c.args.text.now c.args.width c.sign_length-sign.result c.leading_constant_digits-digits.result.now (record {
      at = c.requires.width;
      within = c.requires.within;
      quote = c.requires.quote;
      signed = c.sign_length-sign.ensures.value;
      read = c.leading_constant_digits-digits.ensures.value;
    })).each

pub returns : goal.returns
returns c =
    c.constant_first.ensures
    ∙ ap (constant_first (c.args.width + 1 + c.sign_length-sign.result + length c.leading_constant_digits-digits.result.now)) c.constant_of.ensures
    ∙ constant_read c.args.text.now c.args.width c.sign_length-sign.result c.leading_constant_digits-digits.result.now (record {
      at = c.requires.width;
      within = c.requires.within;
      quote = c.requires.quote;
      signed = c.sign_length-sign.ensures.value;
      read = c.leading_constant_digits-digits.ensures.value;
    })
