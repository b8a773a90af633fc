use Rattle.cell_tests.proofs.widths.operands_are_extended_by_their_signs_and_written_whole.Given as goal

abbrev pub ghosts-check_rows : goal.ghosts-check_rows
ghosts-check_rows g a = record { name = a.blank.name; parts = a.blank.parts }
