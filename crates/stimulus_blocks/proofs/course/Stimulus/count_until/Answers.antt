use Rattle.std.proofs.Common.{◌≡◌, ◌<◌, ◌≤◌, ◌+◌, ◌-◌, ◌/◌, ◌∙◌, ℕ, sym, subst, arith}
use Rattle.std.proofs.Common.{is_le, nat_cmp, true, false}
use Rattle.std.proofs.lemmas.Bool.Decides.{nat_tests}
use Rattle.stimulus_blocks.specs.Courses.{Course, IsCourse, row_of, sample_count}
use Rattle.stimulus_blocks.proofs.Until.{before_more, behind_more, until_first}
use Rattle.stimulus_blocks.proofs.course.Stimulus.count_until.Goals as goal

is_early : (time t at : ℕ) → is_le (nat_cmp time t) ≡ true → time ≡ at → at ≤ t
is_early time t at e is = let l : time ≤ t = grind (arith, nat_tests) in omega arith

is_late : (time t at : ℕ) → is_le (nat_cmp time t) ≡ false → time ≡ at → t < at
is_late time t at e is = let l : t < time = grind (arith, nat_tests) in omega arith

pub loop-low-preserved-then-le : goal.loop-low-preserved-then-le
loop-low-preserved-then-le c =
    let good : IsCourse c.args.self.now = subst (λ (s : Course). IsCourse s) c.self.view_is c.self.invariant.1 in
    let m : ℕ = c.loop-low.low + (c.loop-low.high - c.loop-low.low) / 2 in
    let t = c.time.ensures in
    record {
      order = omega arith;
      inside = c.loop-low.invariant.inside;
      before = before_more c.args.self.now good (c.loop-low.low + (c.loop-low.high - c.loop-low.low) / 2) c.args.time (omega (arith, c.loop-low.invariant.inside)) (is_early c.time.result c.args.time _ (sym c.le.ensures ∙ c.if-le.true) c.time.ensures);
      behind = c.loop-low.invariant.behind;
    }

pub loop-low-preserved : goal.loop-low-preserved
loop-low-preserved c =
    let good : IsCourse c.args.self.now = subst (λ (s : Course). IsCourse s) c.self.view_is c.self.invariant.1 in
    record {
      order = omega arith;
      inside = omega (arith, c.loop-low.invariant.inside);
      before = c.loop-low.invariant.before;
      behind = behind_more c.args.self.now good (c.loop-low.low + (c.loop-low.high - c.loop-low.low) / 2) c.args.time (is_late c.time.result c.args.time _ (sym c.le.ensures ∙ c.if-le.false) c.time.ensures);
    }

pub returns-clause-value : goal.returns-clause-value
returns-clause-value c =
    sym (until_first (row_of c.args.self.now) (sample_count c.args.self.now) c.loop-low.low c.args.time (omega (arith, c.loop-low.invariant.inside, c.loop-low.invariant.order)) c.loop-low.invariant.before
    (λ k le lt. c.loop-low.invariant.behind k (omega (arith, le, c.loop-low.invariant.order, c.loop-low-test.false)) lt))
