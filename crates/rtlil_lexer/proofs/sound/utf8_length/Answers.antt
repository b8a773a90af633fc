use Rattle.std.proofs.Common.{sym, arith}
use Rattle.std.proofs.lemmas.Str.{utf8_valid_len-IsUtf8, utf8_valid_len_le}
use Rattle.rtlil_lexer.proofs.sound.utf8_length.Goals as goal

pub returns-in-Ok-clause-value : goal.returns-in-Ok-clause-value
returns-in-Ok-clause-value c = sym (utf8_valid_len-IsUtf8 c.args.bytes.now c.in-Ok.ensures.cases.1)

pub returns-in-Err-clause-within : goal.returns-in-Err-clause-within
returns-in-Err-clause-within c = let le = utf8_valid_len_le c.args.bytes.now in omega (arith, c.in-Err.ensures.valid_len)
