use Rattle.cell_tests.proofs.cells.a_cell_reads_parts_of_nets.Given as goal

abbrev pub ghosts-check_second : goal.ghosts-check_second
ghosts-check_second g a = record { name = a.blank.name; parts = a.blank.parts }
