use Rattle.circuit.specs.Valid.{cell_fits, diag_fits, drive_fits, drivers_of, mem_fits, register_fits}
use Rattle.circuit.proofs.Grown.{all_at, fitting_of, input_there, item_scope, item_there}
use Rattle.circuit.proofs.built.law_of_parts.Goals as goal

pub returns-clause-drive : goal.returns-clause-drive
returns-clause-drive c circuit n d valid at = all_at (drive_fits (drivers_of circuit)) circuit.drives (fitting_of circuit valid).drives n d at

pub returns-clause-cell : goal.returns-clause-cell
returns-clause-cell c circuit n x valid at = all_at (cell_fits circuit.nets) circuit.cells (fitting_of circuit valid).cells n x at

pub returns-clause-register : goal.returns-clause-register
returns-clause-register c circuit n r valid at = all_at (register_fits circuit.nets) circuit.regs (fitting_of circuit valid).regs n r at

pub returns-clause-memory : goal.returns-clause-memory
returns-clause-memory c circuit n m valid at = all_at (mem_fits circuit.nets) circuit.mems (fitting_of circuit valid).mems n m at

pub returns-clause-diagnostic : goal.returns-clause-diagnostic
returns-clause-diagnostic c circuit n d valid at = all_at (diag_fits circuit.nets) circuit.diags (fitting_of circuit valid).diags n d at

pub returns-clause-item : goal.returns-clause-item
returns-clause-item c circuit n i valid at = item_there circuit valid n i at

pub returns-clause-scope : goal.returns-clause-scope
returns-clause-scope c circuit n i valid at = item_scope circuit valid n i at

pub returns-clause-input : goal.returns-clause-input
returns-clause-input c circuit n net valid at = input_there circuit valid n net at
