use Rattle.design_top.specs.Tops.{is_marked, numbers_of}
use Rattle.design_top.proofs.Steps.{found_all, found_step}
use Rattle.design_top.proofs.tops.marked.Goals as goal

pub loop-number-preserved : goal.loop-number-preserved
loop-number-preserved c =
    found_step is_marked c.args.modules.now c.loop-number.number c.index-modules-number.result c.loop-number.found (numbers_of is_marked 0 c.args.modules.now) c.loop-number-test.true c.index-modules-number.is
    c.in_ok-holds.holds c.push_where.new.found c.in_ok-holds.ensures c.in_ok-push_where.ensures c.loop-number.invariant

pub returns : goal.returns
returns c = found_all is_marked c.args.modules.now c.loop-number.number c.loop-number.found (numbers_of is_marked 0 c.args.modules.now) c.loop-number-test.false c.loop-number.invariant
