use Rattle.design_values.proofs.Connected.{connected_same}
use Rattle.design_values.proofs.laws.law_of_connections.Goals as goal

pub returns : goal.returns
returns c = λ v left right small below none wide follow. connected_same c.law_of_sig_part.ensures.width c.law_of_sig_part.ensures.number c.law_of_sig_part.ensures.constants v small left right below none wide follow
