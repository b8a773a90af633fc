use Rattle.signal_words.specs.Stores.{IsStoreOf}
use Rattle.state_tests.proofs.parts.store_of.Given as goal

abbrev pub invariant-loop-text : goal.invariant-loop-text
invariant-loop-text g l = IsStoreOf l.circuit l.store
