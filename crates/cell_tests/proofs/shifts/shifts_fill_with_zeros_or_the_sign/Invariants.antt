use Rattle.cell_tests.proofs.shifts.shifts_fill_with_zeros_or_the_sign.Given as goal

abbrev pub ghosts-check_rows : goal.ghosts-check_rows
ghosts-check_rows g a = record { name = a.blank.name; parts = a.blank.parts }
