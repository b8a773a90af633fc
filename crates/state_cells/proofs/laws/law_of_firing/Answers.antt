use Rattle.std.proofs.Common.{[], sym, ◌∙◌, ap, Option}
use Rattle.circuit.specs.Shown.{fails, fires_by}
use Rattle.circuit.specs.declared.diagnostic.Trigger.{Trigger}
use Rattle.circuit.proofs.Rounds.{last_nets}
use Rattle.state_cells.specs.Diagnostics.{fires_where}
use Rattle.state_cells.proofs.laws.law_of_firing.Goals as goal

pub returns-clause-last : goal.returns-clause-last
returns-clause-last c d rounds r none last =
    ap (λ (t : Option Trigger). fires_by t d rounds) none
    ∙ ap (fails d) (last_nets [] rounds r last)
    ∙ ap (λ (t : Option Trigger). fires_where t d r) (sym none)
