use Rattle.std.proofs.Common.{◌≡◌, Some, get_or, sym, ap, ◌∙◌, arith}
use Rattle.std.specs.Prelude.{slice_get}
use Rattle.std.proofs.lemmas.Option.{slice_get-get_or}
use Rattle.run_followed.proofs.Among.{kinds_step}
use Rattle.run_followed.proofs.fired.fired_kinds.Goals as goal

pub loop-d-preserved : goal.loop-d-preserved
loop-d-preserved c run k is =
    let diag = get_or c.as_slice-diags.result.now c.loop-d.d c.index-diags-d.result in
    let at : slice_get c.args.circuit.now.diags c.loop-d.d ≡ Some diag =
    ap (λ xs. slice_get xs c.loop-d.d) (sym c.as_slice-diags.ensures) ∙ slice_get-get_or c.as_slice-diags.result.now c.loop-d.d c.index-diags-d.result (omega (arith, c.loop-d-test.true)) in
    kinds_step run k c.args.machine.now c.args.circuit.now c.loop-d.d diag c.fired.result c.loop-d.kinds c.with_fired-kinds.result c.requires.circuit is at c.fired.ensures (c.loop-d.invariant run k is) c.with_fired-kinds.ensures
