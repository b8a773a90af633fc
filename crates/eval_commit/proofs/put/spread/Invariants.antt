use Rattle.std.proofs.Common.{◌≡◌}
use Rattle.sim_base.specs.Values.{widths}
use Rattle.eval_commit.specs.Marked.{AreTold, ReadListed}
use Rattle.eval_commit.specs.Spread.{IsSpread}
use Rattle.eval_commit.proofs.put.spread.Given as goal

abbrev pub invariant-loop-place : goal.invariant-loop-place
invariant-loop-place l = record {
  same : widths l.nets ≡ widths l.fn.nets;
  told : AreTold l.roots l.readers l.fn.nets l.nets l.fn.marks l.marks;
  listed : ReadListed l.readers l.places l.fn.marks l.marks;
  spread : IsSpread l.roots l.places l.place-index l.from.number l.fn.nets l.nets;
}
