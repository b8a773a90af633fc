use Rattle.std.proofs.Common.{◌≡◌, ◌-◌}
use Rattle.rtlil_tree.specs.Input.{repeated, pure}
use Rattle.rtlil_tree.specs.Modules.{file_lines, file_line}
use Rattle.rtlil_tree.proofs.file.file_lines.Given as goal

abbrev pub invariant-loop-turn : goal.invariant-loop-turn
invariant-loop-turn l = file_lines l.fn.cursor ≡ repeated file_line pure (l._turn-end - l._turn) l.draft l.cursor
