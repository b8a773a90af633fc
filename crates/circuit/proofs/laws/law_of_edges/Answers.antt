use Rattle.circuit.proofs.Choices.{edge_found, edge_given}
use Rattle.circuit.proofs.laws.law_of_edges.Goals as goal

pub returns-clause-found : goal.returns-clause-found
returns-clause-found c before now on rising h = edge_found before now on rising h

pub returns-clause-given : goal.returns-clause-given
returns-clause-given c before now on rising i h = edge_given before now on rising i h
