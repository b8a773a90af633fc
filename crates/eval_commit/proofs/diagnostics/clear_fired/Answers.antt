use Rattle.std.proofs.Common.{length, map, refl, ◌∙◌, ap, arith, List, Bool, false}
use Rattle.std.proofs.lemmas.List.{length-map}
use Rattle.eval_commit.proofs.Firing.{cleared_at}
use Rattle.eval_commit.proofs.PortsOver.{over_all, over_length, over_old, over_put}
use Rattle.eval_commit.proofs.diagnostics.clear_fired.Goals as goal

abbrev cleared : List Bool → List Bool
cleared fired = map (λ _. false) fired

pub at-requires : goal.at-requires
at-requires c =
    omega (arith, c.loop-n-test.true, c.len-n-end.ensures, ap (length {A = Bool}) c.loop-n.invariant, over_length (cleared c.args.fired.now) c.args.fired.now c.loop-n.n)

pub loop-n-preserved : goal.loop-n-preserved
loop-n-preserved c =
    let old = over_old (cleared c.args.fired.now) c.args.fired.now c.loop-n.fired c.loop-n.n c.at.result.now c.loop-n.invariant c.at.ensures.value in
    over_put (cleared c.args.fired.now) c.args.fired.now c.loop-n.fired c.loop-n.n false c.at.result.now false c.loop-n.invariant (cleared_at c.args.fired.now c.loop-n.n c.at.result.now old) c.at.ensures.value refl

pub returns : goal.returns
returns c =
    let many = length-map c.args.fired.now (λ (_ : Bool). false) in
    c.loop-n.invariant ∙ over_all (cleared c.args.fired.now) c.args.fired.now c.loop-n.n many (omega (arith, many, c.loop-n-test.false, c.len-n-end.ensures))
