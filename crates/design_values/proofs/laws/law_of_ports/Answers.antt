use Rattle.design_values.proofs.Joined.{input_same, missing_zero, output_same}
use Rattle.design_values.proofs.laws.law_of_ports.Goals as goal

pub returns-clause-inputs : goal.returns-clause-inputs
returns-clause-inputs c = λ v inside ports js k j n sig small follow at input named pieces wide below. input_same v inside ports js follow c.law_of_sig_part.ensures.width c.law_of_sig_part.ensures.number c.law_of_sig_part.ensures.constants small k j n sig at named pieces wide input below

pub returns-clause-outputs : goal.returns-clause-outputs
returns-clause-outputs c = λ v inside ports js k j n sig small follow at input named pieces wide none. output_same v inside ports js follow c.law_of_sig_part.ensures.width c.law_of_sig_part.ensures.number c.law_of_sig_part.ensures.constants small k j n sig at named pieces wide input none

pub returns-clause-missing : goal.returns-clause-missing
returns-clause-missing c = λ v inside ports js k name w n follow at input missing named. missing_zero v inside ports js follow k name w n at input missing named
