use Rattle.std.proofs.Common.{◌≡◌, ◌+◌, Some, None, arith, sym, ◌∙◌, ap, add-one}
use Rattle.std.proofs.lemmas.Bool.{false≢true}
use Rattle.std.specs.Prelude.{is_some}
use Rattle.circuit.specs.Rounds.{Run, standing_after}
use Rattle.flat_run.specs.Run.{run_under}
use Rattle.flat_run.proofs.Steps.{goes_on}
use Rattle.flat_run.proofs.progress.Progress.go_on.Goals as goal

pub overflow_add-self : goal.overflow_add-self
overflow_add-self c = omega (arith, c.requires.there, c.count.ensures.value, c.count.ensures.most)

pub returns-then-sample-clause-progress : goal.returns-then-sample-clause-progress
returns-then-sample-clause-progress c =
    let run : Run = run_under c.args.circuit.now c.args.stimulus.now in
    record {
      flat = c.requires.progress.flat;
      samples = c.requires.progress.samples;
      within = omega (arith, c.requires.there);
      room = c.read_row.ensures.room ∙ c.requires.progress.samples.columns;
      fits = c.sample.ensures.fits;
      stands = λ free. goes_on run c.args.self.now.settled c.args.self.now.rounds c.deref.result.now (Some c.sample.new.self) (c.requires.progress.stands c.requires.free) (c.deref.ensures.value ∙ c.read_row.ensures.inputs) (c.sample.ensures.settled c.if-sample.true);
      ends = λ stuck. absurd (false≢true (sym c.requires.free ∙ stuck));
    }

pub returns-else-sample-clause-progress : goal.returns-else-sample-clause-progress
returns-else-sample-clause-progress c =
    let run : Run = run_under c.args.circuit.now c.args.stimulus.now in
    let none : standing_after run (c.args.self.now.settled + 1) ≡ None = goes_on run c.args.self.now.settled c.args.self.now.rounds c.deref.result.now None (c.requires.progress.stands c.requires.free) (c.deref.ensures.value ∙ c.read_row.ensures.inputs) (c.sample.ensures.unsettled c.if-sample.false) in
    record {
      flat = c.requires.progress.flat;
      samples = c.requires.progress.samples;
      within = omega (arith, c.requires.there);
      room = c.read_row.ensures.room ∙ c.requires.progress.samples.columns;
      fits = c.sample.ensures.fits;
      stands = λ free. absurd (false≢true (sym free));
      ends = λ stuck. c.length_of_run.ensures.only run c.args.self.now.settled c.requires.progress.within (ap is_some (c.requires.progress.stands c.requires.free)) (λ lt. ap (standing_after run) (sym (add-one c.args.self.now.settled)) ∙ none);
    }
