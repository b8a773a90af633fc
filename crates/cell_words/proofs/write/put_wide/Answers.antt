use Rattle.std.proofs.Common.{◌≡◌, ◌+◌, ◌-◌, ◌/◌, ◌%◌, ◌^◌, ◌<◌, ◌∙◌, ◌||◌, false, List, get_or, ap, sym, subst, ℕ, arith}
use Rattle.std.proofs.Math.Nat.{mod-eq_of_lt, div-one}
use Rattle.sim_base.specs.BitValue.{BitValue}
use Rattle.sim_base.proofs.Held.{widths_kept}
use Rattle.sim_base.proofs.Written.{IsCopied, all_copied, copied_nothing, more_word}
use Rattle.sim_base.specs.Values.{width_at}
use Rattle.cell_words.proofs.TwoWords.{high_below}
use Rattle.cell_words.proofs.write.put_wide.Goals as goal

pub put_field-high-requires-clause-inside : goal.put_field-high-requires-clause-inside
put_field-high-requires-clause-inside c =
    let v = c.put_field-low.ensures.value in
    let w : width_at c.put_field-low.new.self c.args.out ≡ width_at c.args.into.now c.args.out = ap (λ (l : List BitValue). width_at l c.args.out) v ∙ ap (λ (l : List ℕ). get_or l c.args.out 0) (widths_kept c.args.into.now c.args.out _) in
    omega (arith, w, c.width-width.ensures.value, c.requires.wide)

pub returns : goal.returns
returns c =
    let w = c.width-width.result in
    let width : w ≡ width_at c.args.into.now c.args.out = c.width-width.ensures.value in
    let fits : c.args.number < 2 ^ w = subst (λ k. c.args.number < 2 ^ k) (sym width) c.requires.below in
    let wide : 64 < w = omega (arith, width, c.requires.wide) in
    let first : IsCopied c.args.into.now c.put_field-low.new.self c.args.out 0 c.args.number 0 64 c.put_field-low.result
    = more_word c.args.into.now c.args.into.now c.put_field-low.new.self c.args.out c.args.number 0 64 c.low_word.result false c.put_field-low.result
    (copied_nothing c.args.into.now c.args.out 0 c.args.number 0) (record { value = c.put_field-low.ensures.value; bits = c.put_field-low.ensures.bits; changed = c.put_field-low.ensures.changed })
    (c.low_word.ensures ∙ ap (λ t. t % 2 ^ 64) (sym (div-one c.args.number))) in
    let second : IsCopied c.args.into.now c.put_field-high.new.self c.args.out 0 c.args.number 0 (64 + (w - 64)) (c.put_field-low.result || c.put_field-high.result)
    = more_word c.args.into.now c.put_field-low.new.self c.put_field-high.new.self c.args.out c.args.number 64 (w - 64) (c.args.number / 2 ^ 64) c.put_field-low.result c.put_field-high.result
    first (record { value = c.put_field-high.ensures.value; bits = c.put_field-high.ensures.bits; changed = c.put_field-high.ensures.changed })
    (sym (mod-eq_of_lt (high_below w c.args.number wide fits))) in
    let all : 64 + (w - 64) ≡ w = omega (arith, wide) in
    all_copied c.args.into.now c.put_field-high.new.self c.args.out c.args.number (64 + (w - 64)) c.args.number (c.put_field-low.result || c.put_field-high.result) second (all ∙ width) c.width-width.ensures.below
    (sym (ap (λ k. c.args.number % 2 ^ k) all ∙ mod-eq_of_lt fits))
