use Rattle.std.proofs.Common.{◌≡◌, option_copied}
use Rattle.flat_text.specs.declared.place.Place.TheVariants as place
use Rattle.flat_text.specs.Place.{read_lines_from, left_of}
use Rattle.flat_text.specs.Words.{lines_of, parts_left}
use Rattle.flat_text.proofs.read.read_module.Given as goal

abbrev pub invariant-loop-rest : goal.invariant-loop-rest
invariant-loop-rest l = read_lines_from l.place (parts_left 10 (option_copied l.rest)) ≡ read_lines_from place.Start (lines_of l.text)

abbrev pub decreases-loop-rest : goal.decreases-loop-rest
decreases-loop-rest l = left_of (option_copied l.rest)
