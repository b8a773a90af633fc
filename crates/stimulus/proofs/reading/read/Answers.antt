use Rattle.std.proofs.Common.{◌∙◌, ◌+◌, sym, ap, subst, arith, Ok, Err}
use Rattle.stimulus_text.specs.Lines.{lines_of}
use Rattle.stimulus_text.specs.declared.fault.StimFault.{StimFault}
use Rattle.stimulus_text.specs.declared.fault.StimFault.TheVariants.{At}
use Rattle.stimulus.specs.Reading.{Fails, course_of}
use Rattle.stimulus.proofs.LineSteps.{ends, fails_at, goes_on, stopped_fails}
use Rattle.stimulus.proofs.Kept.{inputs_kept}
use Rattle.stimulus.proofs.reading.read.Goals as goal

pub returns-in-Err-clause-fault : goal.returns-in-Err-clause-fault
returns-in-Err-clause-fault c =
    subst (λ (f : StimFault). Fails f (course_of c.args.text.now c.args.circuit.now)) (sym c.at.ensures)
    (stopped_fails c.in-Err.stop (c.loop-line.number + 1) (course_of c.args.text.now c.args.circuit.now)
    (λ kind is. c.loop-line.invariant.read ∙ fails_at c.args.circuit.now c.loop-line.number c.loop-line.reading (lines_of c.loop-line.rest.now) c.in-Some.line.text.now (lines_of c.in-Some.line.rest.now) kind c.in-Some.ensures.lines (c.in-Err.ensures.fault kind (ap Err is))))

pub returns-in-Err-end-clause-fault : goal.returns-in-Err-end-clause-fault
returns-in-Err-end-clause-fault c =
    c.loop-line.invariant.read ∙ ends c.args.circuit.now c.loop-line.number c.loop-line.reading (lines_of c.loop-line.rest.now) (Err c.in-Err-end.kind) c.in_default.ensures.lines c.in-Err-end.ensures.value
    ∙ ap (λ n. Err (At c.in-Err-end.kind n)) (sym c.max.ensures)

pub loop-line-preserved : goal.loop-line-preserved
loop-line-preserved c = record {
  read = c.loop-line.invariant.read ∙ goes_on c.args.circuit.now c.loop-line.number c.loop-line.reading (lines_of c.loop-line.rest.now) c.in-Some.line.text.now (lines_of c.in-Some.line.rest.now) c.in-Ok.next c.in-Some.ensures.lines c.in-Ok.ensures.ok;
  room = omega (arith, c.loop-line.invariant.room, c.in-Some.ensures.shorter);
  sound = c.in-Ok.ensures.sound;
}

pub returns-in-Ok-end-clause-ok : goal.returns-in-Ok-end-clause-ok
returns-in-Ok-end-clause-ok c = c.loop-line.invariant.read ∙ ends c.args.circuit.now c.loop-line.number c.loop-line.reading (lines_of c.loop-line.rest.now) (Ok c.in-Ok-end.stimulus) c.in_default.ensures.lines c.in-Ok-end.ensures.value

pub returns-in-Ok-end-clause-inputs : goal.returns-in-Ok-end-clause-inputs
returns-in-Ok-end-clause-inputs c =
    inputs_kept c.args.circuit.now (lines_of c.args.text.now) c.in-Ok-end.stimulus
    (c.loop-line.invariant.read ∙ ends c.args.circuit.now c.loop-line.number c.loop-line.reading (lines_of c.loop-line.rest.now) (Ok c.in-Ok-end.stimulus) c.in_default.ensures.lines c.in-Ok-end.ensures.value)
