use Rattle.cell_tests.proofs.selections.parts_are_taken_where_they_are_selected.Given as goal

abbrev pub ghosts-check_rows : goal.ghosts-check_rows
ghosts-check_rows g a = record { name = a.blank.name; parts = a.blank.parts }
