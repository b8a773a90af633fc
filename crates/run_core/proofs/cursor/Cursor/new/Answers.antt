use Rattle.std.proofs.Common.{ap, ◌∙◌, arith}
use Rattle.std.proofs.lemmas.Bool.{false≢true}
use Rattle.std.specs.Arc.{arc_value}
use Rattle.eval_commit.specs.Machine.{MachineState}
use Rattle.run_core.proofs.Steps.{started, starts}
use Rattle.run_core.proofs.cursor.Cursor.new.Goals as goal

pub returns-clause-cursor : goal.returns-clause-cursor
returns-clause-cursor c = record {
  valid = c.requires.plan.valid;
  fits = c.requires.inputs;
  circuit = ap (λ (m : MachineState). m.circuit) c.in_ok-machine.ensures;
  place = c.first.ensures c.args.stimulus.now;
  inputs = c.in_ok-inputs.ensures;
  within = omega arith;
  settled = started (arc_value c.args.circuit) c.args.stimulus.now;
  stands = λ free. ap (λ (m : MachineState). m.standing) c.in_ok-machine.ensures ∙ starts (arc_value c.args.circuit) c.args.stimulus.now;
  ends = λ stuck. absurd (false≢true stuck);
}
