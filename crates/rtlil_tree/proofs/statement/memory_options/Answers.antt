use Rattle.std.proofs.Common.{rules, arith}
use Rattle.std.proofs.lemmas.Grind.{common_steps}
use Rattle.rtlil_tree.specs.Input.{repeated, pure}
use Rattle.rtlil_tree.specs.Statements.{memory_option}
use Rattle.rtlil_tree.proofs.Turns.{one_more, no_more}
use Rattle.rtlil_tree.proofs.statement.memory_options.Goals as goal

pub returns-then-not-branch : goal.returns-then-not-branch
unfolding repeated
returns-then-not-branch c =
    let e = one_more (λ n. repeated memory_option pure n c.loop-turn.options c.loop-turn.cursor) _ c.loop-turn._turn c.loop-turn-test.true c.loop-turn.invariant in
    first_of (search rules, grind (arith, common_steps))

pub returns-in_err-memory_option : goal.returns-in_err-memory_option
unfolding repeated
returns-in_err-memory_option c =
    let e = one_more (λ n. repeated memory_option pure n c.loop-turn.options c.loop-turn.cursor) _ c.loop-turn._turn c.loop-turn-test.true c.loop-turn.invariant in
    first_of (search rules, grind (arith, common_steps))

pub loop-turn-preserved : goal.loop-turn-preserved
unfolding repeated
loop-turn-preserved c =
    let e = one_more (λ n. repeated memory_option pure n c.loop-turn.options c.loop-turn.cursor) _ c.loop-turn._turn c.loop-turn-test.true c.loop-turn.invariant in
    first_of (search rules, grind (arith, common_steps))

pub returns : goal.returns
unfolding repeated
returns c =
    let e = no_more (λ n. repeated memory_option pure n c.loop-turn.options c.loop-turn.cursor) _ c.loop-turn._turn c.loop-turn-test.false c.loop-turn.invariant in
    first_of (search rules, grind (arith, common_steps))
