use Rattle.std.proofs.Common.{◌≡◌, ◌+◌, ◌-◌, ◌<◌, ◌∙◌, ◌||◌, ℕ, List, get_or, ap, subst, arith}
use Rattle.std.specs.Int.{bit_at}
use Rattle.sim_base.specs.BitValue.{BitValue}
use Rattle.sim_base.proofs.Field.{bit_at_shr}
use Rattle.sim_base.specs.Values.{width_at}
use Rattle.sim_base.proofs.Held.{widths_kept}
use Rattle.sim_base.proofs.Written.{IsCopied, copied_nothing, copied_more}
use Rattle.sim_base.proofs.values.Values.put_field.Goals as goal
use Rattle.sim_base.proofs.values.Values.put_field.Goals.{After-put_digits-more}

pub returns-then-k-eq0-clause-value : goal.returns-then-k-eq0-clause-value
returns-then-k-eq0-clause-value c = let n = copied_nothing c.args.self.now c.args.n c.args.at c.args.v 0 in n.value

pub put_digits-more-requires-clause-inside : goal.put_digits-more-requires-clause-inside
put_digits-more-requires-clause-inside c =
    let w : width_at c.put_digits-changed.new.self c.args.n ≡ width_at c.args.self.now c.args.n
    = ap (λ (l : List BitValue). width_at l c.args.n) c.put_digits-changed.ensures.value ∙ ap (λ (l : List ℕ). get_or l c.args.n 0) (widths_kept c.args.self.now c.args.n _) in
    let less : c.min-first.result < c.args.k = c.if-first-k.true in
    omega (arith, w, c.requires.inside)

copied : (c : After-put_digits-more) → IsCopied c.args.self.now c.put_digits-more.new.self c.args.n c.args.at c.args.v 0 c.args.k (c.put_digits-changed.result || c.put_digits-more.result)
copied c =
    let less : c.min-first.result < c.args.k = c.if-first-k.true in
    let k : c.min-first.result + (c.args.k - c.min-first.result) ≡ c.args.k = omega arith in
    subst (λ m. IsCopied c.args.self.now c.put_digits-more.new.self c.args.n c.args.at c.args.v 0 m (c.put_digits-changed.result || c.put_digits-more.result)) k
    (copied_more c.args.self.now c.put_digits-changed.new.self c.put_digits-more.new.self c.args.n c.args.at c.args.v 0 c.min-first.result (c.args.k - c.min-first.result) _ c.put_digits-changed.result c.put_digits-more.result
    (record { value = c.put_digits-changed.ensures.value; bits = c.put_digits-changed.ensures.bits; changed = c.put_digits-changed.ensures.changed })
    (record { value = c.put_digits-more.ensures.value; bits = c.put_digits-more.ensures.bits; changed = c.put_digits-more.ensures.changed })
    (λ i lt. bit_at_shr c.args.v c.min-first.result i ∙ ap (bit_at c.args.v) (let z : c.min-first.result + i ≡ 0 + c.min-first.result + i = omega arith in z)))

pub returns-then-first-k-clause-value : goal.returns-then-first-k-clause-value
returns-then-first-k-clause-value c = (copied c).value

pub returns-then-first-k-clause-bits : goal.returns-then-first-k-clause-bits
returns-then-first-k-clause-bits c = (copied c).bits

pub returns-then-first-k-clause-changed : goal.returns-then-first-k-clause-changed
returns-then-first-k-clause-changed c = (copied c).changed
