use Rattle.std.proofs.Common.{refl}
use Rattle.demo_design.specs.DemoText.{wires_of}
use Rattle.demo_design.proofs.Stages.{no_stage, one_more}
use Rattle.demo_design.proofs.chain.push_wires.Goals as goal

pub loop-stage-init : goal.loop-stage-init
loop-stage-init c = no_stage wires_of c.args.text.now.items

pub loop-stage-preserved : goal.loop-stage-preserved
loop-stage-preserved c = one_more wires_of c.loop-stage.stage c.args.text.now.items c.loop-stage.text.items c.push_numbered.new.text.items c.push_numbered-in-loop-stage.new.text.items _ _ refl c.loop-stage.invariant c.in_ok-push_numbered.ensures c.in_ok-push_numbered-2.ensures
