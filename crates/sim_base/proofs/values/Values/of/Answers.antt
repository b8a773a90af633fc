use Rattle.std.proofs.Common.{◌≡◌, ◌+◌, suc, ℕ, ◌∙◌, List, length, get_or, sym, ap, arith}
use Rattle.sim_base.specs.BitValue.{BitValue}
use Rattle.sim_base.specs.Values.{with_number, width_at}
use Rattle.sim_base.proofs.Filled.{filled, filled_all, filled_length, filled_more, filled_none, filled_width}
use Rattle.sim_base.proofs.values.Values.of.Goals as goal

pub loop-n-init : goal.loop-n-init
loop-n-init c = c.in_ok-all.ensures ∙ filled_none c.args.values.now

read : (values : List BitValue) (n : ℕ) (x v : BitValue) → x ≡ get_or values n x → v ≡ x → v ≡ get_or values n v
read values n x v is e = e ∙ is ∙ ap (get_or values n) (sym e)

pub put-requires-clause-there : goal.put-requires-clause-there
put-requires-clause-there c =
    let l = filled_length c.args.values.now c.loop-n.n in
    let e = ap (λ (l : List BitValue). length l) c.loop-n.invariant in
    omega (arith, l, e, c.loop-n-test.true)

pub put-requires-clause-width : goal.put-requires-clause-width
put-requires-clause-width c =
    filled_width c.args.values.now c.loop-n.n c.view.result c.loop-n-test.true (read c.args.values.now c.loop-n.n c.index-values-n.result c.view.result c.index-values-n.is c.view.ensures)
    ∙ ap (λ (l : List BitValue). width_at l c.loop-n.n) (sym c.loop-n.invariant)

pub loop-n-preserved : goal.loop-n-preserved
loop-n-preserved c =
    let z : suc c.loop-n.n ≡ c.loop-n.n + 1 = omega arith in
    c.put.ensures.value ∙ ap (λ (l : List BitValue). with_number l c.loop-n.n c.view.result.number) c.loop-n.invariant
    ∙ filled_more c.args.values.now c.loop-n.n c.view.result c.loop-n-test.true (read c.args.values.now c.loop-n.n c.index-values-n.result c.view.result c.index-values-n.is c.view.ensures)
    ∙ ap (filled c.args.values.now) z

pub returns : goal.returns
returns c =
    let end : c.loop-n.n ≡ length c.args.values.now = omega (arith, c.loop-n-test.false, c.loop-n.auto.n-end) in
    c.loop-n.invariant ∙ ap (filled c.args.values.now) end ∙ filled_all c.args.values.now
