use Rattle.std.proofs.Common.{◌≡◌, ◌+◌, ◌/◌, ◌^◌, ◌∙◌, ◌||◌, ℕ, List, get_or, ap, arith}
use Rattle.std.specs.Int.{bit_at}
use Rattle.sim_base.specs.BitValue.{BitValue}
use Rattle.sim_base.proofs.Field.{bit_at_mod, bit_at_shr}
use Rattle.sim_base.specs.Values.{width_at}
use Rattle.sim_base.proofs.Held.{widths_kept}
use Rattle.sim_base.proofs.Written.{IsCopied, copied_nothing, copied_more}
use Rattle.sim_base.proofs.values.Values.copy.Goals as goal

pub loop-done-init : goal.loop-done-init
loop-done-init c =
    let n = copied_nothing c.args.self.now c.args.n c.args.at c.args.from.now.number c.args.from_at in
    record { some = omega arith; value = n.value; bits = n.bits; told = n.changed }

pub put_field-more-requires-clause-inside : goal.put_field-more-requires-clause-inside
put_field-more-requires-clause-inside c =
    let w : width_at c.loop-done.self c.args.n ≡ width_at c.args.self.now c.args.n
    = ap (λ (l : List BitValue). width_at l c.args.n) c.loop-done.invariant.value ∙ ap (λ (l : List ℕ). get_or l c.args.n 0) (widths_kept c.args.self.now c.args.n _) in
    omega (arith, w, c.min-part.ensures, c.loop-done-test.true, c.requires.inside)

pub loop-done-preserved : goal.loop-done-preserved
loop-done-preserved c =
    let old = c.args.self.now in
    let mid = c.loop-done.self in
    let from = c.args.from.now.number in
    let all : IsCopied old c.put_field-more.new.self c.args.n c.args.at from c.args.from_at (c.loop-done.done + c.min-part.result) (c.loop-done.changed || c.put_field-more.result)
    = copied_more old mid c.put_field-more.new.self c.args.n c.args.at from c.args.from_at c.loop-done.done c.min-part.result c.field-v.result c.loop-done.changed c.put_field-more.result
    (record { value = c.loop-done.invariant.value; bits = c.loop-done.invariant.bits; changed = c.loop-done.invariant.told })
    (record { value = c.put_field-more.ensures.value; bits = c.put_field-more.ensures.bits; changed = c.put_field-more.ensures.changed })
    (λ i lt. ap (λ x. bit_at x i) c.field-v.ensures ∙ bit_at_mod (from / 2 ^ (c.args.from_at + c.loop-done.done)) c.min-part.result i lt ∙ bit_at_shr from (c.args.from_at + c.loop-done.done) i) in
    record { some = omega (arith, c.min-part.ensures, c.loop-done-test.true); value = all.value; bits = all.bits; told = all.changed }
