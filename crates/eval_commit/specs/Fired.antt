-- Which diagnostics fired, from round to round.
use Rattle.std.specs.Prelude.{List, [], ◌∷◌, map, Bool, false, ◌||◌, Option, Some, None}
use Rattle.circuit.specs.Rounds.{Round}
use Rattle.circuit.specs.declared.diagnostic.Diag.{Diag}
use Rattle.circuit.specs.declared.diagnostic.Trigger.{Trigger}
use Rattle.state_cells.specs.Diagnostics.{fires_in}

abbrev pub none_fired : List Diag → List Bool
none_fired diags = map (λ _. false) diags

-- after a round in which a diagnostic fires or does not: with a trigger it stays fired
abbrev pub fired_after : Option Trigger → Bool → Bool → Bool
fired_after None fired fires = fires
fired_after (Some t) fired fires = fired || fires

-- the same of each diagnostic
unfoldable pub all_fired_after : List Diag → List Bool → Round → List Bool
all_fired_after [] fired round = []
all_fired_after (d ∷ ds) [] round = []
all_fired_after (d ∷ ds) (f ∷ fs) round = fired_after d.trigger f (fires_in d round) ∷ all_fired_after ds fs round
