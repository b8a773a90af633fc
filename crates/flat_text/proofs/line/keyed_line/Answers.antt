use Rattle.std.proofs.Common.{ap, ◌∙◌}
use Rattle.flat_text.specs.declared.line.Keyword.{Keyword}
use Rattle.flat_text.specs.Lines.{keyed_line}
use Rattle.flat_text.specs.Words.{words_of}
use Rattle.flat_text.proofs.Parts.{end_of_more, some_part}
use Rattle.flat_text.proofs.line.keyed_line.Goals as goal

pub returns-in-End-clause-not_built : goal.returns-in-End-clause-not_built
returns-in-End-clause-not_built c =
    λ _. ap (λ (k : Keyword). keyed_line k (words_of c.args.words.now)) c.in-End.is ∙ end_of_more (words_of c.args.words.now) (some_part 32 c.args.words.now)
