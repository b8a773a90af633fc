use Rattle.eval_commit.proofs.step.Rounds.start.Given as goal

abbrev pub ghosts-first_nets : goal.ghosts-first_nets
ghosts-first_nets a = record { name = a.blank.name; parts = a.blank.parts }
