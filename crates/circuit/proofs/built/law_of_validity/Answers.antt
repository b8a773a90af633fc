use Rattle.circuit.proofs.Grown.{fitting_of, fitting_from}
use Rattle.circuit.proofs.built.law_of_validity.Goals as goal

pub returns-clause-parts : goal.returns-clause-parts
returns-clause-parts c circuit valid = fitting_of circuit valid

pub returns-clause-whole : goal.returns-clause-whole
returns-clause-whole c circuit fits = fitting_from circuit fits
