use Rattle.std.proofs.Common.{◌≡◌, ℕ, ◌+◌, ◌*◌, suc, get_or, subst, arith, w64}
use Rattle.std.specs.Int.{trailing_zeros}
use Rattle.dirty_set.proofs.Descent.{IsLeastAt, root_is_least, some_inside, lowest, one_down}
use Rattle.dirty_set.proofs.tree.least_leaf.Goals as goal

pub loop-level-init : goal.loop-level-init
loop-level-init c = root_is_least c.args.words.now c.requires.some

pub overflow_add-place-in-loop-level : goal.overflow_add-place-in-loop-level
overflow_add-place-in-loop-level c =
    let i = some_inside c.args.words.now c.loop-level.place c.loop-level.invariant.some in
    let few = c.requires.few in
    let t = (lowest (get_or c.args.words.now c.loop-level.place 0) c.loop-level.invariant.some (c.type_inv.words c.loop-level.place).fits).0 in
    omega (arith, i, few, t)

pub loop-level-preserved : goal.loop-level-preserved
loop-level-preserved c =
    let x : ℕ = get_or c.args.words.now c.loop-level.place 0 in
    let l = lowest x c.loop-level.invariant.some (c.type_inv.words c.loop-level.place).fits in
    subst (λ n. IsLeastAt n (64 * c.loop-level.place + 1 + trailing_zeros w64 x) c.args.words.now) (let e : suc c.loop-level._level ≡ c.loop-level._level + 1 = omega arith in e)
    (one_down c.args.words.now c.args.depth c.loop-level._level c.loop-level.place (trailing_zeros w64 x) (omega (arith, c.loop-level-test.true)) c.requires.summed c.loop-level.invariant l.0 l.1 l.2)
