use Rattle.std.proofs.Common.{◌≡◌, List, true, sym, subst}
use Rattle.std.specs.List.{list_all}
use Rattle.circuit.specs.Valid.{piece_fits}
use Rattle.circuit.specs.declared.netlist.Piece.{Piece}
use Rattle.driver_check.proofs.Fitting.{cell_sigs}
use Rattle.driver_check.proofs.rows.cell_row.Goals as goal

pub push_signal-requires-3-clause-fits : goal.push_signal-requires-3-clause-fits
push_signal-requires-3-clause-fits c =
    subst (λ (ps : List Piece). list_all (piece_fits c.args.circuit.now.nets) ps ≡ true) (sym c.as_slice-3.ensures) (cell_sigs c.args.circuit.now c.requires.valid c.args.cell.now c.requires.fits).2
