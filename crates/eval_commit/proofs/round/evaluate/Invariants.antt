use Rattle.std.proofs.Common.{◌≡◌}
use Rattle.circuit.specs.State.{State}
use Rattle.circuit.specs.Signal.{Digits}
use Rattle.circuit.specs.Valuation.{IsValuation}
use Rattle.signal_words.specs.Stores.{IsStoreOf}
use Rattle.sim_base.specs.Values.{numbers, widths}
use Rattle.eval_commit.specs.Evaluation.{Holds, IsBlank}
use Rattle.eval_commit.proofs.Meaning.{AreRight}
use Rattle.eval_commit.proofs.round.evaluate.Given as goal

abbrev pub invariant-loop-node : goal.invariant-loop-node
invariant-loop-node g l = record {
  belongs : IsStoreOf l.circuit l.store;
  regs : l.store.regs ≡ l.fn.store.regs;
  reads : l.store.reads ≡ l.fn.store.reads;
  rooms_same : widths l.rooms ≡ widths l.fn.rooms;
  blank : IsBlank l.plan.roots l.store.nets;
  marked : l.marks.width ≡ l.fn.marks.width;
  right : (state : State) (digits : Digits) → Holds l.circuit l.rows l.fn.store state → IsValuation l.circuit state (numbers l.inputs) digits → AreRight l.circuit l.plan.nodes l.plan.roots l.node-index digits l.store.nets;
}
