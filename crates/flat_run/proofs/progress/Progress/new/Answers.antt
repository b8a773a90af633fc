use Rattle.std.proofs.Common.{◌∙◌, arith}
use Rattle.std.proofs.lemmas.Bool.{false≢true}
use Rattle.flat_run.specs.Run.{run_under}
use Rattle.flat_run.proofs.Steps.{stands_first}
use Rattle.flat_run.proofs.progress.Progress.new.Goals as goal

pub returns : goal.returns
returns c = record {
  flat = c.requires.flat;
  samples = c.requires.samples;
  within = omega arith;
  room = c.in_ok-zeros.ensures.long ∙ c.len.ensures;
  fits = c.in_ok-new.ensures.fits;
  stands = λ free. stands_first (run_under c.args.circuit.now c.args.stimulus.now) c.in_ok-new.field-0 c.in_ok-new.ensures.start;
  ends = λ stuck. absurd (false≢true stuck);
}
