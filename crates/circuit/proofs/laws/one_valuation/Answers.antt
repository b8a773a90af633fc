use Rattle.circuit.proofs.Listed.{is_valuation, only_valuation, driver_gives}
use Rattle.circuit.proofs.laws.one_valuation.Goals as goal

pub returns-clause-valuation : goal.returns-clause-valuation
returns-clause-valuation c state inputs = is_valuation c.args.circuit.now state inputs c.requires

pub returns-clause-driver : goal.returns-clause-driver
returns-clause-driver c state inputs i net bit d at cov = driver_gives c.args.circuit.now state inputs c.requires i net bit d at cov

pub returns-clause-only : goal.returns-clause-only
returns-clause-only c state inputs digits v net bit = only_valuation c.args.circuit.now state inputs digits c.requires v net bit
