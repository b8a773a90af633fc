use Rattle.std.proofs.Common.{◌≡◌, ◌≤◌, ◌<◌, ◌+◌, get_or, drop, rules, arith, true, false, not, sym, ap, ◌∙◌}
use Rattle.std.proofs.lemmas.Grind.{common_steps}
use Rattle.std.proofs.lemmas.List.{at_drop_all}
use Rattle.rtlil_signals.specs.Slices.{chosen, is_inside}
use Rattle.rtlil_tree.specs.declared.sig.Slice.{Slice}
use Rattle.rtlil_signals.proofs.Loops.{chosen_more, chosen_stop}
use Rattle.rtlil_signals.proofs.slice.chosen.Goals as goal

pub returns-then-not-is_inside : goal.returns-then-not-is_inside
returns-then-not-is_inside c = sym (c.loop-slice.invariant.same ∙ chosen_stop c.loop-slice.range c.args.slices.now c.loop-slice.slice-index (record { high = 0; low = 0 }) c.loop-slice-test.true (sym c.is_inside.ensures ∙ c.if-not-is_inside.true))

pub loop-slice-preserved : goal.loop-slice-preserved
loop-slice-preserved c =
    let s : Slice = get_or c.args.slices.now c.loop-slice.slice-index (record { high = 0; low = 0 }) in
    let inside : is_inside c.loop-slice.range.width s ≡ true = grind (arith, common_steps) in
    let ends : (s.low ≤ s.high) × (s.high < c.loop-slice.range.width) = grind (arith, common_steps) in
    record {
      same = c.loop-slice.invariant.same ∙ chosen_more c.loop-slice.range c.args.slices.now c.loop-slice.slice-index (record { high = 0; low = 0 }) c.loop-slice-test.true inside ∙ ap (λ r. chosen r (drop (c.loop-slice.slice-index + 1) c.args.slices.now)) (sym c.narrowed-range.ensures);
      room = omega (arith, ends.0, ends.1, ap (λ r. r.at) c.narrowed-range.ensures, ap (λ r. r.width) c.narrowed-range.ensures);
    }

pub returns : goal.returns
unfolding chosen
returns c = sym (c.loop-slice.invariant.same ∙ at_drop_all (chosen c.loop-slice.range) c.args.slices.now c.loop-slice.slice-index c.loop-slice-test.false)
