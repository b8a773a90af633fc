use Rattle.rtlil_names.proofs.Texts.{whole_named}
use Rattle.rtlil_names.proofs.Modules.{parsed_named}
use Rattle.rtlil_names.proofs.laws.law_of_names_read.Goals as goal

pub returns : goal.returns
returns c text tokens file read tree = parsed_named tokens file (whole_named text tokens ((c.law_of_tokens.ensures text tokens).1 read)) tree
