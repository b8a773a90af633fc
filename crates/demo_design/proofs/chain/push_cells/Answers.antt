use Rattle.std.proofs.Common.{refl}
use Rattle.demo_design.specs.DemoText.{cells_of}
use Rattle.demo_design.proofs.Stages.{no_stage, one_more}
use Rattle.demo_design.proofs.chain.push_cells.Goals as goal

pub loop-stage-init : goal.loop-stage-init
loop-stage-init c = no_stage cells_of c.args.text.now.items

pub loop-stage-preserved : goal.loop-stage-preserved
loop-stage-preserved c = one_more cells_of c.loop-stage.stage c.args.text.now.items c.loop-stage.text.items c.push_adder.new.text.items c.push_register.new.text.items _ _ refl c.loop-stage.invariant c.in_ok-push_adder.ensures c.in_ok-push_register.ensures
