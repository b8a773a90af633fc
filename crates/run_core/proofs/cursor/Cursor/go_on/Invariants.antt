use Rattle.run_core.proofs.cursor.Cursor.go_on.Given as goal

abbrev pub ghosts-settle : goal.ghosts-settle
ghosts-settle a = record { name = a.blank.name; parts = a.blank.parts }
