use Rattle.std.proofs.Common.{◌≡◌, ◌-◌}
use Rattle.rtlil_tree.specs.Input.{repeated, refuse}
use Rattle.rtlil_tree.specs.Modules.{module_lines, module_line}
use Rattle.rtlil_tree.proofs.file.module_lines.Given as goal

abbrev pub invariant-loop-turn : goal.invariant-loop-turn
invariant-loop-turn l = module_lines l.fn.cursor ≡ repeated module_line (λ _. refuse) (l._turn-end - l._turn) l.draft l.cursor
