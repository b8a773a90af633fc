use Rattle.std.proofs.Common.{ap}
use Rattle.outside.specs.Shelves.{known_file}
use Rattle.outside.proofs.ShelvesLemmas.{is_eq-slice_cmp-apart}
use Rattle.outside.proofs.shelves.put.Goals as goal

pub returns-clause-others : goal.returns-clause-others
returns-clause-others c = λ other apart. ap known_file (c.in_ok-insert.ensures.updates.2 other (is_eq-slice_cmp-apart c.args.name other apart))
