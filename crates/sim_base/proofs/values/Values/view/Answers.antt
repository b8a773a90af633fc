use Rattle.std.proofs.Common.{◌≡◌, ◌+◌, ◌-◌, ◌/◌, ◌^◌, ◌<◌, ◌∙◌, ℕ, List, length, take, drop, sym, ap, subst, arith}
use Rattle.sim_base.specs.BitValue.{bit_value, number_of_words, AreWords}
use Rattle.sim_base.specs.Values.{number_at, width_at}
use Rattle.sim_base.proofs.Held.{below, part_width, part_inside, part_length, part_number, part_fit}
use Rattle.sim_base.proofs.values.Values.view.Goals as goal

pub slice_bounds-result-end : goal.slice_bounds-result-end
slice_bounds-result-end c =
    let i = part_inside _ _ _ _ c.args.n c.span-span.result.place c.span-span.result.width c.self.invariant c.self.view_is c.requires c.span-span.ensures.place c.span-span.ensures.width in
    let d : length c.deref.result.now ≡ length c.self.inside.words.items = ap (λ (l : List ℕ). length l) c.deref.ensures.value in
    omega arith

part : (c : goal.After-result-1) → take (c.span-span.result.place + (c.span-span.result.width + 63) / 64 - c.span-span.result.place) (drop c.span-span.result.place c.deref.result.now) ≡ take ((c.span-span.result.width + 63) / 64) (drop c.span-span.result.place c.self.inside.words.items)
part c =
    let p = c.span-span.result.place in
    let k = (c.span-span.result.width + 63) / 64 in
    let z : p + k - p ≡ k = omega arith in
    ap (λ m. take m (drop p c.deref.result.now)) z ∙ ap (λ (l : List ℕ). take k (drop p l)) c.deref.ensures.value

number : (c : goal.After-result-1) → number_of_words (take ((c.span-span.result.width + 63) / 64) (drop c.span-span.result.place c.self.inside.words.items)) ≡ number_at c.args.self.now c.args.n
number c = part_number _ _ _ _ c.args.n c.span-span.result.place c.span-span.result.width c.self.invariant c.self.view_is c.requires c.span-span.ensures.place c.span-span.ensures.width

width : (c : goal.After-result-1) → width_at c.args.self.now c.args.n ≡ c.span-span.result.width
width c = part_width _ _ _ _ c.args.n c.span-span.result.place c.span-span.result.width c.self.invariant c.self.view_is c.requires c.span-span.ensures.place c.span-span.ensures.width

pub invariant_of-result : goal.invariant_of-result
invariant_of-result c =
    let w = c.span-span.result.width in
    subst (λ (l : List ℕ). (length l ≡ (w + 63) / 64) × (number_of_words l < 2 ^ w) × AreWords l) (sym (part c)) (
      part_length _ _ _ _ c.args.n c.span-span.result.place w c.self.invariant c.self.view_is c.requires c.span-span.ensures.place c.span-span.ensures.width,
      subst (λ m. m < 2 ^ w) (sym (number c)) (subst (λ x. number_at c.args.self.now c.args.n < 2 ^ x) (width c) (below _ _ _ _ c.args.n c.self.invariant c.self.view_is c.requires)),
      part_fit _ _ _ _ c.args.n c.span-span.result.place w c.self.invariant c.self.view_is c.requires c.span-span.ensures.place c.span-span.ensures.width,
    )

pub returns : goal.returns
returns c =
    ap (λ (l : List ℕ). bit_value c.span-span.result.width (number_of_words l)) (part c)
    ∙ ap (bit_value c.span-span.result.width) (number c) ∙ ap (λ w. bit_value w (number_at c.args.self.now c.args.n)) (sym (width c))
