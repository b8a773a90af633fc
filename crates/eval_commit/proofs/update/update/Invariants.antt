use Rattle.std.proofs.Common.{◌≡◌, ◌≤◌, ℕ, length}
use Rattle.signal_words.specs.Stores.{IsStoreOf}
use Rattle.sim_base.specs.Values.{widths}
use Rattle.eval_commit.specs.Evaluation.{IsBlank}
use Rattle.eval_commit.proofs.Marking.{IsUpTo}
use Rattle.eval_commit.proofs.update.update.Given as goal

abbrev pub invariant-loop-done : goal.invariant-loop-done
invariant-loop-done g l = record {
  belongs : IsStoreOf l.circuit l.store;
  regs : l.store.regs ≡ l.fn.store.regs;
  reads : l.store.reads ≡ l.fn.store.reads;
  rooms_same : widths l.rooms ≡ widths l.fn.rooms;
  blank : IsBlank l.plan.roots l.store.nets;
  marked : l.marks.width ≡ l.fn.marks.width;
  up : (k : ℕ) × (l._done ≤ k) × (k ≤ length l.plan.nodes) × IsUpTo l.circuit l.plan l.rows l.inputs l.fn.store l.before.nets l.fn.steps k l.store.nets l.marks l.steps;
}
