use Rattle.rtlil_tree.proofs.Whole.{whole_file}
use Rattle.rtlil_tree.proofs.laws.law_of_whole_file.Goals as goal

pub returns : goal.returns
returns c = whole_file
