use Rattle.std.proofs.Common.{◌≡◌, ℕ, ◌+◌, ◌*◌, ◌/◌, drop, ◌∙◌, suc, List, replicate, sym, ap, subst, arith}
use Rattle.sim_base.specs.BitValue.{bit_value, number_of_words}
use Rattle.dirty_set.specs.Tree.{first_place, IsTree}
use Rattle.dirty_set.proofs.Descent.{first_zero, first_step}
use Rattle.dirty_set.proofs.Empty.{zeros_tree, zeros_number}
use Rattle.dirty_set.proofs.set.DirtySet.new.Goals as goal
use Rattle.dirty_set.proofs.set.DirtySet.new.Goals.{In_ok-words}

pub loop-first-init : goal.loop-first-init
loop-first-init c = record {
  leaves = sym first_zero;
  few = omega arith;
  levels = omega arith;
}

pub loop-first-preserved : goal.loop-first-preserved
loop-first-preserved c =
    let i = c.loop-first.invariant in
    let t = c.loop-first-test.true in
    let d : suc c.loop-first.depth ≡ c.loop-first.depth + 1 = omega arith in
    record {
      leaves = ap (λ f. 64 * f + 1) i.leaves ∙ sym (first_step c.loop-first.depth) ∙ ap first_place d;
      few = let f = i.few in omega (arith, f, t);
      levels = let l = i.levels in omega (arith, l);
    }

words : (c : In_ok-words) → c.in_ok-words.words.items ≡ replicate {A = ℕ} (c.loop-first.first + (c.saturating_sub.result / 64 + 1)) 0
words c = c.in_ok-words.ensures.items_if_clones_equal (λ y e. e)

pub invariant_of-result : goal.invariant_of-result
invariant_of-result c =
    let s = c.saturating_sub.ensures in
    let few = c.loop-first.invariant.few in
    let n = c.ranges.n.fits in
    subst (λ (l : List ℕ). IsTree c.args.n c.loop-first.first c.loop-first.depth l) (sym (words c))
    (zeros_tree c.args.n c.loop-first.first c.loop-first.depth (c.saturating_sub.result / 64 + 1) (ap (λ m. m / 64 + 1) s) c.loop-first.invariant.leaves (omega (arith, few, s, n)) (let t = c.loop-first-test.false in omega (arith, t)))

pub returns : goal.returns
returns c = ap (bit_value c.args.n) (ap (λ (l : List ℕ). number_of_words (drop c.loop-first.first l)) (words c) ∙ zeros_number c.loop-first.first (c.loop-first.first + (c.saturating_sub.result / 64 + 1)))
