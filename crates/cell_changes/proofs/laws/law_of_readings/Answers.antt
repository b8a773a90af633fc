use Rattle.signal_words.proofs.Fitting.{cell_of}
use Rattle.cell_changes.proofs.laws.law_of_readings.Goals as goal

pub returns : goal.returns
returns c circuit store n x valid of at =
    let h = cell_of circuit store n x valid of at in
    record { a = h.a; b = h.b; s = h.s }
