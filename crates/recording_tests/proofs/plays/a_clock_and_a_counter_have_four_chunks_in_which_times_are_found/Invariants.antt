use Rattle.recording_tests.proofs.plays.a_clock_and_a_counter_have_four_chunks_in_which_times_are_found.Given as goal

abbrev pub ghosts-look_for_each_time : goal.ghosts-look_for_each_time
ghosts-look_for_each_time g a = record { name = a.blank.name; parts = a.blank.parts }
