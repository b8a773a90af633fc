use Rattle.std.proofs.Common.{◌≡◌, ◌<◌, Some, length, refl, sym, ap, ◌∙◌, arith}
use Rattle.std.specs.Prelude.{slice_get}
use Rattle.std.proofs.lemmas.Option.{slice_get_read}
use Rattle.circuit.specs.Rounds.{Run}
use Rattle.stimulus_blocks.specs.Courses.{run_of}
use Rattle.run_followed.proofs.Among.{kinds_hit}
use Rattle.run_followed.proofs.progress.Progress.hits.Goals as goal

pub returns-in-Some-clause-hits : goal.returns-in-Some-clause-hits
returns-in-Some-clause-hits c =
    let run : Run = run_of c.args.circuit.now c.args.stimulus.now in
    let fired = c.in-Some.fired.now in
    let inside : c.args.k < c.follow.new.self.cursor.given = omega (arith, c.follow.ensures.least, c.requires.settles) in
    let at : slice_get c.follow.new.self.fired.items c.args.k ≡ Some fired =
    ap (λ xs. slice_get xs c.args.k) (sym c.deref.ensures.value)
    ∙ slice_get_read c.deref.result.now (length c.deref.result.now) c.args.k fired refl c.in-Some.ensures.lookup.3.0 c.in-Some.ensures.lookup.1 in
    c.meet.ensures ∙ kinds_hit run c.args.k c.args.kinds fired (c.follow.ensures.progress.fired c.args.k fired inside at)
