use Rattle.recording_tests.proofs.plays.each_view_of_a_recording_plays_whole_in_any_order.Given as goal

abbrev pub ghosts-play_each_view : goal.ghosts-play_each_view
ghosts-play_each_view g a = record { name = a.blank.name; parts = a.blank.parts }
