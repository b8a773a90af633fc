use Rattle.std.proofs.Common.{◌≡◌, Err, ap, sym, rules, arith}
use Rattle.std.proofs.lemmas.Grind.{common_steps}
use Rattle.rtlil_tree.specs.Input.{repeated, pure, refuse}
use Rattle.rtlil_tree.specs.Processes.{body_part, switch_part, switch_within}
use Rattle.rtlil_tree.proofs.Turns.{one_more, no_more, deeper}
use Rattle.rtlil_tree.proofs.action.+action.Goals as goal

pub switch_within-returns-then-depth-eq0 : goal.switch_within-returns-then-depth-eq0
unfolding switch_within
switch_within-returns-then-depth-eq0 t c _ =
    let none : c.args.depth ≡ 0 = omega arith in
    rw none (ap Err (sym c.fault.ensures))

pub switch_within-returns : goal.switch_within-returns
unfolding switch_within
switch_within-returns t c = rw (deeper (λ n. switch_within n c.args.cursor.now) c.args.depth (omega arith)) (rw (← c.step.ensures) c.switch_with.ensures)

pub body-returns-then-not-branch : goal.body-returns-then-not-branch
unfolding repeated
body-returns-then-not-branch t c =
    let e = one_more (λ n. repeated (body_part (switch_within c.args.depth)) pure n c.loop-turn.found c.loop-turn.cursor) _ c.loop-turn._turn c.loop-turn-test.true c.loop-turn.invariant in
    first_of (search rules, grind (arith, common_steps))

pub body-returns-in_err-body_part : goal.body-returns-in_err-body_part
unfolding repeated
body-returns-in_err-body_part t c =
    let e = one_more (λ n. repeated (body_part (switch_within c.args.depth)) pure n c.loop-turn.found c.loop-turn.cursor) _ c.loop-turn._turn c.loop-turn-test.true c.loop-turn.invariant in
    first_of (search rules, grind (arith, common_steps))

pub body-loop-turn-preserved : goal.body-loop-turn-preserved
unfolding repeated
body-loop-turn-preserved t c =
    let e = one_more (λ n. repeated (body_part (switch_within c.args.depth)) pure n c.loop-turn.found c.loop-turn.cursor) _ c.loop-turn._turn c.loop-turn-test.true c.loop-turn.invariant in
    first_of (search rules, grind (arith, common_steps))

pub body-returns : goal.body-returns
unfolding repeated
body-returns t c =
    let e = no_more (λ n. repeated (body_part (switch_within c.args.depth)) pure n c.loop-turn.found c.loop-turn.cursor) _ c.loop-turn._turn c.loop-turn-test.false c.loop-turn.invariant in
    first_of (search rules, grind (arith, common_steps))

pub cases-returns-then-not-branch : goal.cases-returns-then-not-branch
unfolding repeated
cases-returns-then-not-branch t c =
    let e = one_more (λ n. repeated (switch_part (switch_within c.args.depth)) (λ _. refuse) n c.loop-turn.found c.loop-turn.cursor) _ c.loop-turn._turn c.loop-turn-test.true c.loop-turn.invariant in
    first_of (search rules, grind (arith, common_steps))

pub cases-returns-in_err-switch_part : goal.cases-returns-in_err-switch_part
unfolding repeated
cases-returns-in_err-switch_part t c =
    let e = one_more (λ n. repeated (switch_part (switch_within c.args.depth)) (λ _. refuse) n c.loop-turn.found c.loop-turn.cursor) _ c.loop-turn._turn c.loop-turn-test.true c.loop-turn.invariant in
    first_of (search rules, grind (arith, common_steps))

pub cases-loop-turn-preserved : goal.cases-loop-turn-preserved
unfolding repeated
cases-loop-turn-preserved t c =
    let e = one_more (λ n. repeated (switch_part (switch_within c.args.depth)) (λ _. refuse) n c.loop-turn.found c.loop-turn.cursor) _ c.loop-turn._turn c.loop-turn-test.true c.loop-turn.invariant in
    first_of (search rules, grind (arith, common_steps))

pub cases-returns : goal.cases-returns
unfolding repeated
cases-returns t c =
    let e = no_more (λ n. repeated (switch_part (switch_within c.args.depth)) (λ _. refuse) n c.loop-turn.found c.loop-turn.cursor) _ c.loop-turn._turn c.loop-turn-test.false c.loop-turn.invariant in
    first_of (search rules, grind (arith, common_steps))
