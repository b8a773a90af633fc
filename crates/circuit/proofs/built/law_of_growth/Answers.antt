use Rattle.circuit.specs.Valid.{cell_fits, diag_fits, drive_fits, mem_fits, register_fits}
use Rattle.circuit.proofs.Grown.{all_mono, appended_stands, cell_stays, diag_stays, drive_stays, mem_stays, register_stays, sig_of_stays, sig_stays}
use Rattle.circuit.proofs.built.law_of_growth.Goals as goal

pub returns-clause-nets : goal.returns-clause-nets
returns-clause-nets c xs more = appended_stands xs more

pub returns-clause-lists : goal.returns-clause-lists
returns-clause-lists c from nets inputs cells regs mems = record {
  nets = appended_stands from.nets nets;
  inputs = appended_stands from.inputs inputs;
  cells = appended_stands from.cells cells;
  regs = appended_stands from.regs regs;
  mems = appended_stands from.mems mems;
}

pub returns-clause-signal : goal.returns-clause-signal
returns-clause-signal c nets more ps stands fits = sig_stays nets more stands ps fits

pub returns-clause-wide : goal.returns-clause-wide
returns-clause-wide c nets more width ps stands fits = sig_of_stays nets more stands width ps fits

pub returns-clause-cells : goal.returns-clause-cells
returns-clause-cells c nets more xs stands fit = all_mono (cell_fits nets) (cell_fits more) xs (cell_stays nets more stands) fit

pub returns-clause-registers : goal.returns-clause-registers
returns-clause-registers c nets more xs stands fit = all_mono (register_fits nets) (register_fits more) xs (register_stays nets more stands) fit

pub returns-clause-memories : goal.returns-clause-memories
returns-clause-memories c nets more xs stands fit = all_mono (mem_fits nets) (mem_fits more) xs (mem_stays nets more stands) fit

pub returns-clause-diagnostics : goal.returns-clause-diagnostics
returns-clause-diagnostics c nets more xs stands fit = all_mono (diag_fits nets) (diag_fits more) xs (diag_stays nets more stands) fit

pub returns-clause-drives : goal.returns-clause-drives
returns-clause-drives c from to xs stand fit = all_mono (drive_fits from) (drive_fits to) xs (drive_stays from to stand) fit
