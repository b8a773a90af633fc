use Rattle.std.proofs.Common.{◌+◌, ◌/◌, ◌^◌, ◌∙◌, ◌||◌, Bool, drop, length, ap, sym, arith}
use Rattle.std.proofs.lemmas.Nat.{shr-shr}
use Rattle.std.proofs.Math.ListN.{drop_of_length-le}
use Rattle.circuit.specs.Shown.{some_edge}
use Rattle.sim_base.specs.BitValue.{BitValue}
use Rattle.signal_words.specs.Values.{digits_in}
use Rattle.state_cells.proofs.Edges.{edge_step, no_more_edge}
use Rattle.state_cells.proofs.diagnostic.is_triggered.Goals as goal

pub returns-then-is_edge : goal.returns-then-is_edge
returns-then-is_edge c =
    sym (c.loop-rising.invariant.none
    ∙ edge_step _ _ c.args.trigger.now.on c.loop-rising.rising-index c.args.trigger.now.rising c.as_slice-rising-items.result.now c.loop-rising.was.number c.loop-rising.is.number c.take.result c.take-in-loop-rising.result c.is_edge.result
    c.as_slice-rising-items.ensures c.loop-rising-test.true c.loop-rising.invariant.was c.loop-rising.invariant.is c.take.ensures.word c.take-in-loop-rising.ensures.word c.is_edge.ensures
    ∙ ap (λ b. b || some_edge (digits_in c.args.before.now) (digits_in c.args.now.now) c.args.trigger.now.on (c.loop-rising.rising-index + 1) (drop (c.loop-rising.rising-index + 1) c.args.trigger.now.rising)) c.if-is_edge.true)

pub loop-rising-preserved : goal.loop-rising-preserved
loop-rising-preserved c = record {
  was = ap (λ (v : BitValue). v.number) c.take.ensures.rest ∙ ap (λ m. m / 2 ^ 1) c.loop-rising.invariant.was ∙ shr-shr _ c.loop-rising.rising-index 1;
  is = ap (λ (v : BitValue). v.number) c.take-in-loop-rising.ensures.rest ∙ ap (λ m. m / 2 ^ 1) c.loop-rising.invariant.is ∙ shr-shr _ c.loop-rising.rising-index 1;
  none = c.loop-rising.invariant.none
      ∙ edge_step _ _ c.args.trigger.now.on c.loop-rising.rising-index c.args.trigger.now.rising c.as_slice-rising-items.result.now c.loop-rising.was.number c.loop-rising.is.number c.take.result c.take-in-loop-rising.result c.is_edge.result
      c.as_slice-rising-items.ensures c.loop-rising-test.true c.loop-rising.invariant.was c.loop-rising.invariant.is c.take.ensures.word c.take-in-loop-rising.ensures.word c.is_edge.ensures
      ∙ ap (λ b. b || some_edge (digits_in c.args.before.now) (digits_in c.args.now.now) c.args.trigger.now.on (c.loop-rising.rising-index + 1) (drop (c.loop-rising.rising-index + 1) c.args.trigger.now.rising)) c.if-is_edge.false;
}

pub returns : goal.returns
returns c =
    sym (c.loop-rising.invariant.none
    ∙ ap (some_edge (digits_in c.args.before.now) (digits_in c.args.now.now) c.args.trigger.now.on c.loop-rising.rising-index) (drop_of_length-le c.args.trigger.now.rising (omega (arith, c.loop-rising-test.false, ap (length {A = Bool}) c.as_slice-rising-items.ensures)))
    ∙ no_more_edge _ _ c.args.trigger.now.on c.loop-rising.rising-index)
