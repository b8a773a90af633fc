use Rattle.base_tests.proofs.steps.steps_go_on_in_a_book.Given as goal

abbrev pub ghosts-zeros_in_new_book : goal.ghosts-zeros_in_new_book
ghosts-zeros_in_new_book g a = record { name = a.blank.name; parts = a.blank.parts }
