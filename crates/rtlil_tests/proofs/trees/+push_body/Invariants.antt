use Rattle.rtlil_tests.proofs.trees.+push_body.Given as goal

abbrev pub decreases-push_body : goal.decreases-push_body
decreases-push_body l = l.depth
