use Rattle.std.proofs.Common.{arith}
use Rattle.driver_check.proofs.Places.{read}
use Rattle.eval_plan.proofs.Ended.{origins_more, origins_same}
use Rattle.eval_plan.proofs.origins.note_origin.Goals as goal

pub returns-then-number-sorting-clause-origins : goal.returns-then-number-sorting-clause-origins
returns-then-number-sorting-clause-origins c =
    let s = c.args.sorting.now in
    let order = s.search.order.items in
    let at = read order c.args.place c.index-number.result.now c.requires.there c.index-number.ensures in
    origins_more c.args.circuit.now order c.requires.sorting.sorted.single c.args.place c.args.origins.now.items c.requires.origins c.index-number.result.now (omega (arith, c.if-number-sorting.true, c.requires.length)) at c.origin_of-origin.result c.origin_of-origin.ensures

pub returns-else-number-sorting-clause-origins : goal.returns-else-number-sorting-clause-origins
returns-else-number-sorting-clause-origins c =
    let s = c.args.sorting.now in
    let order = s.search.order.items in
    let at = read order c.args.place c.index-number.result.now c.requires.there c.index-number.ensures in
    origins_same c.args.circuit.now order c.args.place c.args.origins.now.items c.requires.origins c.index-number.result.now at (omega (arith, c.if-number-sorting.false, c.requires.sorting.numbers.total))
