use Rattle.cell_tests.proofs.arithmetic.arithmetic_is_that_of_whole_numbers.Given as goal

abbrev pub ghosts-check_rows : goal.ghosts-check_rows
ghosts-check_rows g a = record { name = a.blank.name; parts = a.blank.parts }
