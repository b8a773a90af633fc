use Rattle.std.proofs.Common.{sym, ap, ◌∙◌}
use Rattle.std.specs.List.{list_all}
use Rattle.rtlil_lexer.specs.Strings.{is_byte}
use Rattle.rtlil_lexer.proofs.Escapes.{unescaped_end}
use Rattle.rtlil_lexer.proofs.quoted.is_all_bytes.Goals as goal

pub returns : goal.returns
returns c = sym (ap (list_all is_byte) (unescaped_end c.loop-at.at c.args.body.now c.loop-at-test.false)) ∙ c.loop-at.invariant
