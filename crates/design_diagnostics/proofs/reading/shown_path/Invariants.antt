use Rattle.std.proofs.Common.{◌≡◌, ◌++◌, true, drop}
use Rattle.design_diagnostics.specs.Readings.{shown_path}
use Rattle.design_diagnostics.proofs.reading.shown_path.Given as goal

abbrev pub invariant-loop-byte : goal.invariant-loop-byte
invariant-loop-byte l = l.bytes.items ++ shown_path l.begins (drop l.byte-index l.path) ≡ shown_path true l.path
