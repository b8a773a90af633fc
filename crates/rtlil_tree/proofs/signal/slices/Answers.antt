use Rattle.std.proofs.Common.{rules, arith}
use Rattle.std.proofs.lemmas.Grind.{common_steps}
use Rattle.rtlil_tree.specs.Sigs.{slices, slices_from}
use Rattle.rtlil_tree.proofs.Turns.{one_more, no_more}
use Rattle.rtlil_tree.proofs.signal.slices.Goals as goal

pub returns-then-not-eat : goal.returns-then-not-eat
unfolding slices_from
returns-then-not-eat c =
    let e = one_more (λ n. slices_from n c.loop-turn.found c.loop-turn.cursor) _ c.loop-turn._turn c.loop-turn-test.true c.loop-turn.invariant in
    first_of (search rules, grind (arith, common_steps))

pub returns-in_err-slice : goal.returns-in_err-slice
unfolding slices_from
returns-in_err-slice c =
    let e = one_more (λ n. slices_from n c.loop-turn.found c.loop-turn.cursor) _ c.loop-turn._turn c.loop-turn-test.true c.loop-turn.invariant in
    first_of (search rules, grind (arith, common_steps))

pub loop-turn-preserved : goal.loop-turn-preserved
unfolding slices_from
loop-turn-preserved c =
    let e = one_more (λ n. slices_from n c.loop-turn.found c.loop-turn.cursor) _ c.loop-turn._turn c.loop-turn-test.true c.loop-turn.invariant in
    first_of (search rules, grind (arith, common_steps))

pub returns : goal.returns
unfolding slices_from
returns c =
    let e = no_more (λ n. slices_from n c.loop-turn.found c.loop-turn.cursor) _ c.loop-turn._turn c.loop-turn-test.false c.loop-turn.invariant in
    first_of (search rules, grind (arith, common_steps))
