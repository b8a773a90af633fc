use Rattle.rtlil_tests.proofs.trees.+push_sig.Given as goal

abbrev pub decreases-push_sig : goal.decreases-push_sig
decreases-push_sig l = l.depth
