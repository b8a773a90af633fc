use Rattle.std.proofs.Common.{◌≡◌, ◌++◌}
use Rattle.demo_design.specs.DemoText.{wires_of, each_stage}
use Rattle.demo_design.proofs.chain.push_wires.Given as goal

abbrev pub invariant-loop-stage : goal.invariant-loop-stage
invariant-loop-stage l = l.text.items ≡ l.fn.text.items ++ each_stage wires_of l.stage
