use Rattle.std.proofs.Common.{◌≡◌, arith, false}
use Rattle.std.proofs.lemmas.Grind.{common_steps}
use Rattle.outside.specs.Shelves.{fails_read}
use Rattle.outside.proofs.shelves.ShelvesShelf.read.Goals as goal

pub returns-clause-refused : goal.returns-clause-refused
returns-clause-refused c =
    let calm : fails_read c.args.self.now c.args.name.now ≡ false = grind (arith, common_steps) in
    (λ failed. absurd (c.copy_within.ensures.never_failed failed), λ fails. let impossible = rw calm at fails in cc)
