use Rattle.std.proofs.Common.{◌≡◌, ℕ, sym, ap, subst, arith, inr, Some}
use Rattle.std.specs.Prelude.{slice_get}
use Rattle.eval_plan.specs.OrderInvariants.{IsOrigin}
use Rattle.driver_check.specs.declared.graph.Span.{Span}
use Rattle.eval_plan.proofs.Ended.{other_end, own_origin}
use Rattle.driver_check.proofs.Nexts.{span_is}
use Rattle.eval_plan.proofs.origins.origin_of.Goals as goal

pub returns-then-span-sorting : goal.returns-then-span-sorting
returns-then-span-sorting c = λ x b at.
    let circuit = c.args.circuit.now in
    let s = c.args.sorting.now in
    let e = span_is circuit s c.requires.sorting c.args.number c.index-span.result.now c.requires.inside c.index-span.ensures x b at in
    let width = ap (λ (p : Span). p.width) e in
    other_end circuit c.requires.valid s c.requires.sorting c.args.place c.args.origins.now c.requires.origins x b
    (subst (λ (v : ℕ). slice_get s.search.order.items c.args.place ≡ Some v) (sym at) c.requires.at)
    c.index-span.result.now.first (ap (λ (p : Span). p.first) e) (omega (arith, width, c.if-span-eq0.false)) (omega (arith, c.if-span-sorting.true, c.requires.sorting.numbers.total))

pub returns-else-span-sorting : goal.returns-else-span-sorting
returns-else-span-sorting c = λ x b at.
    let circuit = c.args.circuit.now in
    let s = c.args.sorting.now in
    let e = span_is circuit s c.requires.sorting c.args.number c.index-span.result.now c.requires.inside c.index-span.ensures x b at in
    let first = ap (λ (p : Span). p.first) e in
    subst (λ (v : ℕ). IsOrigin circuit x v) at (own_origin circuit c.requires.valid x b (inr (omega (arith, first, c.if-span-sorting.false, c.requires.sorting.numbers.total))))
