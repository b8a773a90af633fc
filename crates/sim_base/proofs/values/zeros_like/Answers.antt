use Rattle.std.proofs.Common.{◌≡◌, ◌∙◌, List, length, map, take, ap, subst, arith}
use Rattle.std.proofs.Math.Seq.{take-length}
use Rattle.std.specs.Prelude.{IfOk}
use Rattle.sim_base.specs.BitValue.{BitValue, zeros}
use Rattle.sim_base.specs.Values.{widths}
use Rattle.sim_base.proofs.values.zeros_like.Goals as goal

pub returns : goal.returns
returns c =
    let end : c.loop-value.value-index ≡ length c.args.values.now = omega (arith, c.loop-value-test.false, c.loop-value.auto.value-index-end) in
    subst (λ (l : List BitValue). IfOk c.new.result (λ values. values ≡ l))
    (ap (map zeros) (c.as_slice.ensures.value ∙ c.loop-value.invariant ∙ ap (λ i. widths (take i c.args.values.now)) end ∙ ap widths (take-length c.args.values.now)))
    c.new.ensures
