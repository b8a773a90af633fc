use Rattle.std.proofs.Common.{◌≡◌, Err, ap, sym, rules, arith}
use Rattle.std.proofs.lemmas.Grind.{common_steps}
use Rattle.rtlil_tree.specs.Sigs.{parts_from, sig_within, braces_within}
use Rattle.rtlil_tree.proofs.Turns.{one_more, no_more, deeper}
use Rattle.rtlil_tree.proofs.signal.+signal.Goals as goal

pub braces_within-returns-then-depth-eq0 : goal.braces_within-returns-then-depth-eq0
unfolding braces_within
braces_within-returns-then-depth-eq0 t c _ =
    let none : c.args.depth ≡ 0 = omega arith in
    rw none (ap Err (sym c.fault.ensures))

pub braces_within-returns : goal.braces_within-returns
unfolding braces_within
braces_within-returns t c = rw (deeper (λ n. braces_within n c.args.cursor.now) c.args.depth (omega arith)) (rw (← c.step.ensures) c.parts.ensures)

pub parts-returns-then-eat : goal.parts-returns-then-eat
unfolding parts_from
parts-returns-then-eat t c =
    let e = one_more (λ n. parts_from (sig_within c.args.depth) n c.loop-turn.found c.loop-turn.cursor) _ c.loop-turn._turn c.loop-turn-test.true c.loop-turn.invariant in
    first_of (search rules, grind (arith, common_steps))

pub parts-returns-in_err-sig_within : goal.parts-returns-in_err-sig_within
unfolding parts_from
parts-returns-in_err-sig_within t c =
    let e = one_more (λ n. parts_from (sig_within c.args.depth) n c.loop-turn.found c.loop-turn.cursor) _ c.loop-turn._turn c.loop-turn-test.true c.loop-turn.invariant in
    first_of (search rules, grind (arith, common_steps))

pub parts-loop-turn-preserved : goal.parts-loop-turn-preserved
unfolding parts_from
parts-loop-turn-preserved t c =
    let e = one_more (λ n. parts_from (sig_within c.args.depth) n c.loop-turn.found c.loop-turn.cursor) _ c.loop-turn._turn c.loop-turn-test.true c.loop-turn.invariant in
    first_of (search rules, grind (arith, common_steps))

pub parts-returns : goal.parts-returns
unfolding parts_from
parts-returns t c =
    let e = no_more (λ n. parts_from (sig_within c.args.depth) n c.loop-turn.found c.loop-turn.cursor) _ c.loop-turn._turn c.loop-turn-test.false c.loop-turn.invariant in
    first_of (search rules, grind (arith, common_steps))
