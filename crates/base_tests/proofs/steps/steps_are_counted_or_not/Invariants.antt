use Rattle.base_tests.proofs.steps.steps_are_counted_or_not.Given as goal

abbrev pub ghosts-zeros_uncounted : goal.ghosts-zeros_uncounted
ghosts-zeros_uncounted g a = record { name = a.blank.name; parts = a.blank.parts }
