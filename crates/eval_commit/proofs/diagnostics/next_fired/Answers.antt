use Rattle.std.proofs.Common.{length, ◌∙◌, ap, arith, Bool}
use Rattle.circuit.specs.declared.diagnostic.Diag.{Diag}
use Rattle.state_cells.specs.Diagnostics.{fires_in, round_of}
use Rattle.eval_commit.specs.Fired.{all_fired_after, fired_after}
use Rattle.eval_commit.proofs.Firing.{fired_at, fired_length}
use Rattle.eval_commit.proofs.PortsOver.{over_all, over_length, over_old, over_put, read_as}
use Rattle.eval_commit.proofs.diagnostics.next_fired.Goals as goal

pub fires-fires-requires : goal.fires-fires-requires
fires-fires-requires c =
    c.law_of_rounds.ensures.diagnostic c.args.circuit.now c.args.before.now c.args.now.now c.loop-n.n c.diag-item.result c.requires.valid c.requires.before c.requires.now
    (read_as c.args.circuit.now.diags c.as_slice-diag-items.result.now c.loop-n.n c.diag-item.result c.as_slice-diag-items.ensures c.loop-n-test.true c.diag-item.is)

pub at-flag-requires : goal.at-flag-requires
at-flag-requires c =
    let news = all_fired_after c.args.circuit.now.diags c.args.fired.now (round_of c.args.before.now c.args.now.now) in
    omega (arith, c.loop-n-test.true, ap (length {A = Diag}) c.as_slice-diag-items.ensures, c.requires.fired, ap (length {A = Bool}) c.loop-n.invariant, over_length news c.args.fired.now c.loop-n.n)

pub loop-n-preserved : goal.loop-n-preserved
loop-n-preserved c =
    let round = round_of c.args.before.now c.args.now.now in
    let d = c.diag-item.result in
    let was = c.at-flag.result.now in
    let news = all_fired_after c.args.circuit.now.diags c.args.fired.now round in
    let at = read_as c.args.circuit.now.diags c.as_slice-diag-items.result.now c.loop-n.n d c.as_slice-diag-items.ensures c.loop-n-test.true c.diag-item.is in
    let old = over_old news c.args.fired.now c.loop-n.fired c.loop-n.n was c.loop-n.invariant c.at-flag.ensures.value in
    let new = fired_at c.args.circuit.now.diags c.args.fired.now round c.loop-n.n d was at old in
    over_put news c.args.fired.now c.loop-n.fired c.loop-n.n (fired_after d.trigger was (fires_in d round)) was c.flag_after.result c.loop-n.invariant new c.at-flag.ensures.value
    (c.flag_after.ensures ∙ ap (fired_after d.trigger was) c.fires-fires.ensures)

pub returns : goal.returns
returns c =
    let round = round_of c.args.before.now c.args.now.now in
    let many = fired_length c.args.circuit.now.diags c.args.fired.now round c.requires.fired in
    c.loop-n.invariant
    ∙ over_all (all_fired_after c.args.circuit.now.diags c.args.fired.now round) c.args.fired.now c.loop-n.n many
    (omega (arith, many, c.requires.fired, c.loop-n-test.false, ap (length {A = Diag}) c.as_slice-diag-items.ensures))
