use Rattle.rtlil_tree.specs.Input.{pure, refuse}
use Rattle.rtlil_tree.specs.Modules.{module_line, file_line}
use Rattle.rtlil_tree.specs.Processes.{body_part, further, switch_part, switch_within, sync_line, sync_part}
use Rattle.rtlil_tree.specs.Statements.{wire_option, memory_option, cell_line}
use Rattle.rtlil_tree.proofs.Repeated.{enough}
use Rattle.rtlil_tree.proofs.Sigs.{slices_enough, parts_enough}
use Rattle.rtlil_tree.proofs.Statements.{wire_option_steps, wire_options_end, memory_option_steps, memory_options_end, cell_line_steps, cell_lines_end}
use Rattle.rtlil_tree.proofs.Processes.{further_steps, further_end, body_part_steps, body_end, switch_part_steps, cases_end, switch_within_takes, sync_line_steps, updates_end, sync_part_steps, syncs_end}
use Rattle.rtlil_tree.proofs.Modules.{module_line_steps, module_lines_end, file_line_steps, file_lines_end}
use Rattle.rtlil_tree.proofs.laws.law_of_turns.Goals as goal

pub returns : goal.returns
returns c = record {
  slices = slices_enough;
  concatenations = parts_enough;
  wires = enough wire_option pure wire_option_steps wire_options_end;
  memories = enough memory_option pure memory_option_steps memory_options_end;
  cells = enough cell_line (λ _. refuse) cell_line_steps cell_lines_end;
  sigs_of_a_case = enough further pure further_steps further_end;
  bodies = λ depth. enough (body_part (switch_within depth)) pure (body_part_steps (switch_within depth) (switch_within_takes depth)) (body_end (switch_within depth));
  switches = λ depth. enough (switch_part (switch_within depth)) (λ _. refuse) (switch_part_steps (switch_within depth) (switch_within_takes depth)) (cases_end (switch_within depth));
  updates = enough sync_line pure sync_line_steps updates_end;
  syncs = enough sync_part pure sync_part_steps syncs_end;
  modules = enough module_line (λ _. refuse) module_line_steps module_lines_end;
  files = enough file_line pure file_line_steps file_lines_end;
}
