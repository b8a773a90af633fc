use Rattle.design_valid.proofs.Wires.{keeps_connect, keeps_wires, wires_stand}
use Rattle.design_valid.proofs.laws.law_of_wires.Goals as goal

pub returns-clause-wires : goal.returns-clause-wires
returns-clause-wires c here earlier statements = keeps_wires here earlier statements

pub returns-clause-names : goal.returns-clause-names
returns-clause-names c here earlier statements before behind ran = wires_stand here earlier statements before behind ran

pub returns-clause-connect : goal.returns-clause-connect
returns-clause-connect c owner scope a = keeps_connect owner scope a
