use Rattle.std.proofs.Common.{sym, ◌∙◌}
use Rattle.flat_text.proofs.Parts.{blanks_before, blanks_alone}
use Rattle.flat_text.proofs.words.without_leading_blanks.Goals as goal

pub returns-in-Some : goal.returns-in-Some
returns-in-Some c = blanks_before c.in-Some.at c.args.line.now (sym c.start_of.ensures ∙ c.in-Some.is)

pub returns-in-None : goal.returns-in-None
returns-in-None c = blanks_alone c.args.line.now (sym c.start_of.ensures ∙ c.in-None.is)
