use Rattle.circuit.specs.Valuation.{bits_of}
use Rattle.design_starts.proofs.Reached.{driven_back, driven_origin}
use Rattle.design_starts.proofs.laws.law_of_origins.Goals as goal

pub returns : goal.returns
returns c = record {
  driven = λ k r x once inside d. driven_origin k once inside r x d;
  drives = λ k r x e. driven_back k (bits_of k) x r e;
}
