use Rattle.std.proofs.Common.{length, map, ◌∙◌, ap, arith}
use Rattle.std.proofs.Math.Seq.{take_all}
use Rattle.std.proofs.lemmas.List.{length-map}
use Rattle.circuit.specs.Shown.{flag}
use Rattle.circuit.specs.declared.netlist.Circuit.{Circuit}
use Rattle.circuit.specs.declared.diagnostic.Diag.{Diag}
use Rattle.spool_format.specs.Reading.{written_at}
use Rattle.run_core.proofs.Writing.{written_none, written_word}
use Rattle.run_core.proofs.Shown.{flag_at}
use Rattle.run_core.proofs.words.put_fired.Goals as goal

pub loop-d-init : goal.loop-d-init
loop-d-init c = written_none c.args.words.now c.args.place

pub fired-requires : goal.fired-requires
fired-requires c =
    omega (arith, c.loop-d-test.true, ap (length {A = Diag}) c.as_slice.ensures, ap (λ (k : Circuit). length k.diags) c.requires.circuit)

pub loop-d-preserved : goal.loop-d-preserved
loop-d-preserved c =
    let long = length-map c.args.machine.now.fired flag in
    written_word c.args.words.now (map flag c.args.machine.now.fired) c.loop-d.words c.args.place c.loop-d.d c.flag_word.result (omega (arith, long, c.requires.fired, c.requires.room))
    (flag_at c.args.machine.now.fired c.loop-d.d c.fired.result c.flag_word.result c.fired.ensures c.flag_word.ensures) c.loop-d.invariant

pub returns : goal.returns
returns c =
    let long = length-map c.args.machine.now.fired flag in
    c.loop-d.invariant ∙ ap (written_at c.args.words.now c.args.place) (take_all c.loop-d.d (map flag c.args.machine.now.fired) (omega (arith, long, c.requires.fired, c.loop-d-test.false, ap (length {A = Diag}) c.as_slice.ensures)))
