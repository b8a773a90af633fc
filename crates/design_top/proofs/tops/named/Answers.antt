use Rattle.design_top.specs.Tops.{has_name, numbers_of}
use Rattle.design_top.proofs.Steps.{found_all, found_step}
use Rattle.design_top.proofs.tops.named.Goals as goal

pub loop-number-preserved : goal.loop-number-preserved
loop-number-preserved c =
    found_step (has_name c.args.name.now) c.args.modules.now c.loop-number.number c.index-modules-number.result c.loop-number.found (numbers_of (has_name c.args.name.now) 0 c.args.modules.now) c.loop-number-test.true c.index-modules-number.is
    c.has_name-holds.result c.push_where.new.found c.has_name-holds.ensures c.in_ok-push_where.ensures c.loop-number.invariant

pub returns : goal.returns
returns c = found_all (has_name c.args.name.now) c.args.modules.now c.loop-number.number c.loop-number.found (numbers_of (has_name c.args.name.now) 0 c.args.modules.now) c.loop-number-test.false c.loop-number.invariant
