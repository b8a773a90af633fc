use Rattle.std.proofs.Common.{refl, ap, ◌∙◌, arith}
use Rattle.std.specs.Arc.{arc_value}
use Rattle.stimulus_blocks.specs.Courses.{sample_count}
use Rattle.run_core.proofs.Given.{none_given, sample_given, unsettled_given}
use Rattle.run_core.proofs.runner.Runner.next_sample.Goals as goal

pub returns-in_default-clause-next : goal.returns-in_default-clause-next
returns-in_default-clause-next c =
    let count = c.count.ensures.value ∙ ap sample_count c.deref.ensures in
    unsettled_given (arc_value c.self.inside.run.circuit) (arc_value c.self.inside.run.stimulus) c.self.inside.progress.cursor.given c.args.self.now c.deref-3.result.now c.deref-4.result.now c.deref-3.ensures c.deref-4.ensures c.self.view_is
    (omega (arith, count, c.if-number-count.false, c.self.invariant.cursor.within)) c.in_default.ensures.settles.1

pub returns-in_default-clause-runner : goal.returns-in_default-clause-runner
returns-in_default-clause-runner c =
    none_given (arc_value c.self.inside.run.circuit) (arc_value c.self.inside.run.stimulus) c.self.inside.progress.cursor.given c.args.self.now c.deref-3.result.now c.deref-4.result.now c.deref-3.ensures c.deref-4.ensures c.self.view_is
    c.go_on.new.self.cursor.given (c.in_default.ensures.stuck refl) c.in_default.ensures.settles.1

pub returns-clause-next : goal.returns-clause-next
returns-clause-next c =
    let count = c.count.ensures.value ∙ ap sample_count c.deref.ensures in
    sample_given (arc_value c.self.inside.run.circuit) (arc_value c.self.inside.run.stimulus) c.self.inside.progress.cursor.given c.args.self.now c.deref-3.result.now c.deref-4.result.now c.deref-3.ensures c.deref-4.ensures c.self.view_is
    c.in-Some.time c.new-words.result (omega (arith, count, c.if-number-count.false, c.self.invariant.cursor.within)) (c.in-Some.ensures.settles.0 refl) c.in-Some.ensures.time
    (c.new-words.ensures ∙ c.copy_from_slice.ensures.items ∙ c.deref-5.ensures.value ∙ c.in-Some.ensures.words)
