use Rattle.std.proofs.Common.{sym, ◌∙◌}
use Rattle.flat_text.proofs.Parts.{split_at_first, split_nowhere}
use Rattle.flat_text.proofs.words.split_first.Goals as goal

pub returns-in-Some-clause-parts : goal.returns-in-Some-clause-parts
returns-in-Some-clause-parts c = split_at_first c.args.separator c.in-Some.at c.args.bytes.now (sym c.place_of.ensures ∙ c.in-Some.is)

pub returns-in-None-clause-parts : goal.returns-in-None-clause-parts
returns-in-None-clause-parts c = split_nowhere c.args.separator c.args.bytes.now (sym c.place_of.ensures ∙ c.in-None.is)
