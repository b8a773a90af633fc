use Rattle.command_words.proofs.Needs.{asked_complete}
use Rattle.command_words.proofs.laws.law_of_commands.Goals as goal

pub returns : goal.returns
returns c = asked_complete
