use Rattle.std.proofs.Common.{◌≡◌, ℕ, length, map, refl, ◌∙◌, ap, subst}
use Rattle.sim_base.specs.Values.{numbers, widths}
use Rattle.circuit.specs.Valuation.{digit_at}
use Rattle.driver_check.specs.declared.parts.Node.TheVariants as node
use Rattle.eval_commit.proofs.Belonging.{element, ended}
use Rattle.eval_commit.proofs.Keeping.{has_kept}
use Rattle.eval_commit.proofs.Meaning.{AreRight, all_right}
use Rattle.eval_commit.proofs.Rounding.{node_right, seeded_blank, seeded_right, spread_blank}
use Rattle.eval_commit.proofs.Telling.{have_still}
use Rattle.eval_commit.proofs.Updating.{shows_cells}
use Rattle.eval_commit.proofs.Valued.{valued}
use Rattle.eval_commit.proofs.round.evaluate.Goals as goal

pub seed_store-requires-clause-fits : goal.seed_store-requires-clause-fits
seed_store-requires-clause-fits g c = (c.args.circuit.now, c.requires.roots, c.requires.inputs, c.requires.store)

pub loop-node-init : goal.loop-node-init
loop-node-init g c = record {
  belongs = record {
    nets = c.seed_store.ensures.nets ∙ c.requires.store.nets;
    cells = ap widths c.seed_store.ensures.cells ∙ c.requires.store.cells;
    regs = ap widths c.seed_store.ensures.regs ∙ c.requires.store.regs;
    reads = ap (map widths) c.seed_store.ensures.reads ∙ c.requires.store.reads;
  };
  regs = c.seed_store.ensures.regs;
  reads = c.seed_store.ensures.reads;
  rooms_same = refl;
  blank = seeded_blank c.args.plan.now.roots c.args.inputs.now c.args.store.now (length c.args.plan.now.roots) c.args.store.now.nets c.seed_store.new.store.nets c.seed_store.ensures.seeded c.requires.blank;
  marked = c.seed_store.ensures.told.width;
  right = λ state digits holds valued.
      seeded_right c.args.circuit.now c.args.inputs.now c.args.rows.now c.args.store.now state digits c.args.plan.now.nodes c.requires.store holds c.args.plan.now.roots c.args.store.now.nets c.seed_store.new.store.nets
      c.requires.roots valued (has_kept c.args.circuit.now c.args.inputs.now c.args.store.now c.requires.inputs c.requires.store c.args.plan.now.roots c.requires.roots) c.requires.blank c.seed_store.ensures.seeded;
}

pub compute-requires-clause-there : goal.compute-requires-clause-there
compute-requires-clause-there g c =
    c.requires.nodes.there c.loop-node.node-index _ (element c.args.plan.now.nodes c.as_slice-node-items.result.now c.loop-node.node-index (node.Cell 0) c.as_slice-node-items.ensures c.loop-node-test.true)

pub compute-requires-clause-marks : goal.compute-requires-clause-marks
compute-requires-clause-marks g c = have_still c.args.plan.now.readers c.args.marks.now c.loop-node.marks c.loop-node.invariant.marked c.requires.marks

pub loop-node-preserved : goal.loop-node-preserved
loop-node-preserved g c =
    let at = element c.args.plan.now.nodes c.as_slice-node-items.result.now c.loop-node.node-index (node.Cell 0) c.as_slice-node-items.ensures c.loop-node-test.true in
    record {
      belongs = c.compute.ensures.store;
      regs = c.compute.ensures.regs ∙ c.loop-node.invariant.regs;
      reads = c.compute.ensures.reads ∙ c.loop-node.invariant.reads;
      rooms_same = c.compute.ensures.rooms ∙ c.loop-node.invariant.rooms_same;
      blank = spread_blank c.args.plan.now.roots _ _ _ c.loop-node.store.nets c.compute.new.store.nets c.compute.ensures.spread c.loop-node.invariant.blank;
      marked = c.compute.ensures.marks ∙ c.loop-node.invariant.marked;
      right = λ state digits holds valued.
          node_right c.args.circuit.now c.args.inputs.now c.args.rows.now c.args.store.now state digits c.args.plan.now.nodes c.args.plan.now.roots c.args.plan.now.sources
          c.requires.nodes c.requires.roots c.requires.sources c.requires.rows holds valued c.loop-node.node-index c.loop-node.store.nets (c.loop-node.invariant.right state digits holds valued) _ c.compute.new.store.nets at c.compute.ensures.spread;
    }

pub returns-clause-digits : goal.returns-clause-digits
returns-clause-digits g c state holds net bit =
    let end : c.loop-node.node-index ≡ length c.args.plan.now.nodes =
    ended c.args.plan.now.nodes c.as_slice-node-items.result.now c.loop-node.node-index c.as_slice-node-items.ensures c.loop-node-test.false c.loop-node.auto.node-index-end in
    all_right c.args.circuit.now c.args.plan.now.nodes c.args.plan.now.roots (digit_at c.args.circuit.now state (numbers c.args.inputs.now)) c.loop-node.store.nets c.requires.nodes c.requires.roots
    (subst (λ (k : ℕ). AreRight c.args.circuit.now c.args.plan.now.nodes c.args.plan.now.roots k (digit_at c.args.circuit.now state (numbers c.args.inputs.now)) c.loop-node.store.nets) end
    (c.loop-node.invariant.right state (digit_at c.args.circuit.now state (numbers c.args.inputs.now)) holds (c.one_valuation.ensures.valuation state (numbers c.args.inputs.now))))
    net bit

pub returns-clause-nets : goal.returns-clause-nets
returns-clause-nets g c state holds =
    valued c.args.circuit.now state (numbers c.args.inputs.now) c.args.plan.now.roots c.loop-node.store.nets c.requires.roots (c.one_valuation.ensures.valuation state (numbers c.args.inputs.now)) c.loop-node.invariant.belongs.nets
    (returns-clause-digits g c state holds)

pub returns-clause-shown : goal.returns-clause-shown
returns-clause-shown g c state holds =
    shows_cells c.args.circuit.now c.args.plan.now state (numbers c.args.inputs.now) (digit_at c.args.circuit.now state (numbers c.args.inputs.now)) c.loop-node.store.nets c.requires.roots c.requires.sources
    (c.one_valuation.ensures.valuation state (numbers c.args.inputs.now)) (returns-clause-digits g c state holds)
