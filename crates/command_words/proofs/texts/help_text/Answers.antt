use Rattle.std.proofs.Common.{refl}
use Rattle.command_words.specs.Texts.{help_text}
use Rattle.command_words.proofs.texts.help_text.Goals as goal

pub returns : goal.returns
unfolding help_text
returns c = refl
