use Rattle.std.proofs.Common.{sym, ◌∙◌, ap, arith, length}
use Rattle.driver_check.proofs.Places.{read}
use Rattle.sim_base.specs.BitValue.{BitValue}
use Rattle.memory_cells.proofs.Fitting.{same_there}
use Rattle.eval_commit.proofs.PortsOver.{long_as, over_all, over_length, over_old, over_put}
use Rattle.eval_commit.proofs.copy.copy_values.Goals as goal

pub at-requires : goal.at-requires
at-requires c =
    let l = over_length c.args.from.now c.args.into.now c.loop-n.n in
    let e = ap (length {A = BitValue}) c.loop-n.invariant in
    let w = long_as (λ (v : BitValue). v.width) (λ (v : BitValue). v.width) c.args.into.now c.args.from.now c.requires in
    omega (arith, c.loop-n-test.true, l, e, w)

pub put_value-requires : goal.put_value-requires
put_value-requires c =
    let new = read c.args.from.now c.loop-n.n c.index-from-n.result c.loop-n-test.true c.index-from-n.is in
    let old = over_old c.args.from.now c.args.into.now c.loop-n.into c.loop-n.n c.at.result.now c.loop-n.invariant c.at.ensures.value in
    same_there (λ (v : BitValue). v.width) (λ (v : BitValue). v.width) c.args.into.now c.args.from.now c.loop-n.n c.at.result.now c.index-from-n.result c.requires old new

pub loop-n-preserved : goal.loop-n-preserved
loop-n-preserved c =
    let new = read c.args.from.now c.loop-n.n c.index-from-n.result c.loop-n-test.true c.index-from-n.is in
    over_put c.args.from.now c.args.into.now c.loop-n.into c.loop-n.n c.index-from-n.result c.at.result.now c.put_value.new.into c.loop-n.invariant new c.at.ensures.value c.put_value.ensures.value

pub returns : goal.returns
returns c =
    let w = long_as (λ (v : BitValue). v.width) (λ (v : BitValue). v.width) c.args.into.now c.args.from.now c.requires in
    c.loop-n.invariant ∙ over_all c.args.from.now c.args.into.now c.loop-n.n (sym w) (omega (arith, c.loop-n-test.false))
