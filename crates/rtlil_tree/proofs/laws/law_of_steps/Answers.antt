use Rattle.rtlil_tree.specs.Input.{pure, refuse}
use Rattle.rtlil_tree.specs.Modules.{module_line, file_line}
use Rattle.rtlil_tree.specs.Processes.{body_part, further, switch_part, switch_within, sync_line, sync_part}
use Rattle.rtlil_tree.specs.Statements.{wire_option, memory_option, cell_line}
use Rattle.rtlil_tree.proofs.Repeated.{is_step}
use Rattle.rtlil_tree.proofs.Sigs.{slice_takes_token, sig_takes_token}
use Rattle.rtlil_tree.proofs.Statements.{wire_option_steps, wire_options_end, memory_option_steps, memory_options_end, cell_line_steps, cell_lines_end}
use Rattle.rtlil_tree.proofs.Processes.{further_steps, further_end, body_part_steps, body_end, switch_part_steps, cases_end, switch_within_takes, sync_line_steps, updates_end, sync_part_steps, syncs_end}
use Rattle.rtlil_tree.proofs.Modules.{module_line_steps, module_lines_end, file_line_steps, file_lines_end}
use Rattle.rtlil_tree.proofs.laws.law_of_steps.Goals as goal

pub returns : goal.returns
returns c = record {
  slices = slice_takes_token;
  signals = sig_takes_token;
  wires = is_step wire_option pure wire_option_steps wire_options_end;
  memories = is_step memory_option pure memory_option_steps memory_options_end;
  cells = is_step cell_line (λ _. refuse) cell_line_steps cell_lines_end;
  sigs_of_a_case = is_step further pure further_steps further_end;
  bodies = λ depth. is_step (body_part (switch_within depth)) pure (body_part_steps (switch_within depth) (switch_within_takes depth)) (body_end (switch_within depth));
  switches = λ depth. is_step (switch_part (switch_within depth)) (λ _. refuse) (switch_part_steps (switch_within depth) (switch_within_takes depth)) (cases_end (switch_within depth));
  updates = is_step sync_line pure sync_line_steps updates_end;
  syncs = is_step sync_part pure sync_part_steps syncs_end;
  modules = is_step module_line (λ _. refuse) module_line_steps module_lines_end;
  files = is_step file_line pure file_line_steps file_lines_end;
}
