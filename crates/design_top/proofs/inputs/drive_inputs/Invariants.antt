use Rattle.std.proofs.Common.{◌≡◌, drop}
use Rattle.design_parts.specs.Parts.{run}
use Rattle.design_top.specs.Inputs.{inputs}
use Rattle.design_top.proofs.inputs.drive_inputs.Given as goal

abbrev pub invariant-loop-statement : goal.invariant-loop-statement
invariant-loop-statement l = run (inputs l.fn.scope l.statements) l.fn.draft ≡ run (inputs l.fn.scope (drop l.statement-index l.statements)) l.draft
