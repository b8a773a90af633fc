use Rattle.std.proofs.Common.{◌≡◌, ◌∙◌, ap, arith}
use Rattle.std.specs.Int.{div_ceil}
use Rattle.std.proofs.Math.Seq.{take_all}
use Rattle.sim_base.specs.Parts.{halves_of}
use Rattle.sim_base.specs.Shape.{words_of_width}
use Rattle.sim_base.proofs.Parts.{length-parts}
use Rattle.spool_format.specs.Reading.{written_at}
use Rattle.run_core.proofs.Writing.{written_none, written_word}
use Rattle.run_core.proofs.words.put_value.Goals as goal

pub loop-n-init : goal.loop-n-init
loop-n-init c = written_none c.args.words.now c.args.place

pub loop-n-preserved : goal.loop-n-preserved
loop-n-preserved c =
    let long = length-parts 32 (words_of_width c.args.value.now.width) c.args.value.now.number in
    written_word c.args.words.now (halves_of c.args.value.now) c.loop-n.words c.args.place c.loop-n.n c.half.result (omega (arith, long, c.requires)) c.half.ensures.listed c.loop-n.invariant

pub returns : goal.returns
returns c =
    let long = length-parts 32 (words_of_width c.args.value.now.width) c.args.value.now.number in
    let wide : c.div_ceil-n-end.result ≡ words_of_width c.args.value.now.width = c.div_ceil-n-end.ensures ∙ ap (λ w. div_ceil w 32) c.width.ensures.value in
    c.loop-n.invariant ∙ ap (written_at c.args.words.now c.args.place) (take_all c.loop-n.n (halves_of c.args.value.now) (omega (arith, long, wide, c.loop-n-test.false)))
