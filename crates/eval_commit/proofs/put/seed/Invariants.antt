use Rattle.std.proofs.Common.{◌≡◌}
use Rattle.sim_base.specs.Values.{widths}
use Rattle.eval_commit.specs.Marked.{AreTold}
use Rattle.eval_commit.specs.Seeding.{IsSeeded}
use Rattle.eval_commit.proofs.put.seed.Given as goal

abbrev pub invariant-loop-place : goal.invariant-loop-place
invariant-loop-place l = record {
  same : widths l.nets ≡ widths l.fn.nets;
  told : AreTold l.roots l.readers l.fn.nets l.nets l.fn.marks l.marks;
  seeded : IsSeeded l.roots (record { inputs = l.inputs; regs = l.regs; reads = l.reads }) l.place l.fn.nets l.nets;
}
