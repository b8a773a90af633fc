use Rattle.std.proofs.Common.{◌≡◌, ◌<◌, ◌≤◌, ◌+◌, ℕ, length, map, take, refl, sym, ◌∙◌, ap, subst, arith, get_or, List, Some}
use Rattle.sim_base.specs.BitValue.{BitValue}
use Rattle.sim_base.specs.Values.{widths}
use Rattle.driver_check.specs.declared.parts.Node.{Node}
use Rattle.driver_check.specs.declared.parts.Node.TheVariants as node
use Rattle.signal_words.specs.Values.{digits_in}
use Rattle.eval_commit.specs.Evaluation.{IsBlank}
use Rattle.eval_commit.specs.Marked.{AreTold}
use Rattle.eval_commit.proofs.Belonging.{element}
use Rattle.eval_commit.proofs.Keeping.{has_kept}
use Rattle.eval_commit.proofs.Marking.{IsUpTo, all_passed, brought_up, end_digits, end_nets, end_shown, end_steps, passed_to, shown_at, starts_up}
use Rattle.eval_commit.proofs.Rounding.{seeded_blank, seeded_right, spread_blank}
use Rattle.eval_commit.proofs.Telling.{readers_have}
use Rattle.eval_commit.proofs.Updating.{node_changes_right, seeded_shown}
use Rattle.eval_commit.proofs.Valued.{valued}
use Rattle.eval_commit.proofs.update.update.Goals as goal

pub seed_store-requires-clause-fits : goal.seed_store-requires-clause-fits
seed_store-requires-clause-fits g c = (c.args.circuit.now, c.requires.roots, c.requires.inputs, c.requires.store)

pub seed_store-requires-clause-marks : goal.seed_store-requires-clause-marks
seed_store-requires-clause-marks g c = readers_have c.args.circuit.now c.args.plan.now.nodes c.args.plan.now.roots c.args.plan.now.readers c.args.marks.now c.requires.readers c.requires.marks

pub mark_all-requires : goal.mark_all-requires
mark_all-requires g c j k at = subst (λ (n : ℕ). k < n) (sym (c.seed_store.ensures.told.width ∙ c.requires.marks)) (c.requires.reads.there j k at)

pub loop-done-init : goal.loop-done-init
loop-done-init g c =
    let blank = seeded_blank c.args.plan.now.roots c.args.inputs.now c.args.store.now (length c.args.plan.now.roots) c.args.store.now.nets c.seed_store.new.store.nets c.seed_store.ensures.seeded c.requires.blank in
    record {
      belongs = record {
        nets = c.seed_store.ensures.nets ∙ c.requires.store.nets;
        cells = ap widths c.seed_store.ensures.cells ∙ c.requires.store.cells;
        regs = ap widths c.seed_store.ensures.regs ∙ c.requires.store.regs;
        reads = ap (map widths) c.seed_store.ensures.reads ∙ c.requires.store.reads;
      };
      regs = c.seed_store.ensures.regs;
      reads = c.seed_store.ensures.reads;
      rooms_same = refl;
      blank = blank;
      marked = c.mark_all.ensures.width ∙ c.seed_store.ensures.told.width;
      up = (
        0,
        (let le : 0 ≤ 0 = omega arith in le),
        (let le : 0 ≤ length c.args.plan.now.nodes = omega arith in le),
        starts_up c.args.circuit.now c.args.plan.now c.args.rows.now c.args.inputs.now c.args.store.now c.args.before.now.nets c.args.steps.now c.seed_store.new.store.nets c.args.marks.now c.seed_store.new.marks c.mark_all.new.marks c.args.reads.now
            c.requires.readers c.requires.reads (subst (λ (ns : List BitValue). IsBlank c.args.plan.now.roots ns) c.requires.same c.requires.blank) blank
            (λ state digits holds valued.
            seeded_right c.args.circuit.now c.args.inputs.now c.args.rows.now c.args.store.now state digits c.args.plan.now.nodes c.requires.store holds c.args.plan.now.roots c.args.store.now.nets c.seed_store.new.store.nets
            c.requires.roots valued (has_kept c.args.circuit.now c.args.inputs.now c.args.store.now c.requires.inputs c.requires.store c.args.plan.now.roots c.requires.roots) c.requires.blank c.seed_store.ensures.seeded)
            (seeded_shown c.args.circuit.now c.args.plan.now.nodes c.args.plan.now c.args.inputs.now c.args.before.now.nets c.args.store.now.nets c.seed_store.new.store.nets c.requires.roots c.requires.sources c.requires.shown c.requires.same
            c.seed_store.ensures.seeded.bare)
            (subst (λ (ns : List BitValue). AreTold c.args.plan.now.roots c.args.plan.now.readers ns c.seed_store.new.store.nets c.args.marks.now c.seed_store.new.marks) c.requires.same c.seed_store.ensures.told)
            c.mark_all.ensures,
      );
    }

pub bounds-nodes-place : goal.bounds-nodes-place
bounds-nodes-place g c =
    let w = c.in-Some.ensures.some.within in
    let long : length c.as_slice-nodes.result.now ≡ length c.args.plan.now.nodes = ap (λ (ns : List Node). length ns) c.as_slice-nodes.ensures in
    omega (arith, w, c.loop-done.invariant.marked, c.requires.marks, long)

pub update_node-requires-clause-there : goal.update_node-requires-clause-there
update_node-requires-clause-there g c =
    let taken = c.in-Some.ensures.some in
    let lt : c.in-Some.place < length c.args.plan.now.nodes = (let w = taken.within in omega (arith, w, c.loop-done.invariant.marked, c.requires.marks)) in
    let long : length c.as_slice-nodes.result.now ≡ length c.args.plan.now.nodes = ap (λ (ns : List Node). length ns) c.as_slice-nodes.ensures in
    let at = element c.args.plan.now.nodes c.as_slice-nodes.result.now c.in-Some.place (node.Cell 0) c.as_slice-nodes.ensures (omega (arith, lt, long)) in
    c.requires.nodes.there c.in-Some.place _ at

pub update_node-requires-clause-shown : goal.update_node-requires-clause-shown
update_node-requires-clause-shown g c n is =
    let taken = c.in-Some.ensures.some in
    let lt : c.in-Some.place < length c.args.plan.now.nodes = (let w = taken.within in omega (arith, w, c.loop-done.invariant.marked, c.requires.marks)) in
    let long : length c.as_slice-nodes.result.now ≡ length c.args.plan.now.nodes = ap (λ (ns : List Node). length ns) c.as_slice-nodes.ensures in
    let at = element c.args.plan.now.nodes c.as_slice-nodes.result.now c.in-Some.place (node.Cell 0) c.as_slice-nodes.ensures (omega (arith, lt, long)) in
    let here = passed_to c.args.circuit.now c.args.plan.now c.args.rows.now c.args.inputs.now c.args.store.now c.args.before.now.nets c.args.steps.now c.requires.nodes c.requires.roots c.requires.sources c.requires.rows c.loop-done.invariant.up.0 c.in-Some.place c.loop-done.store.nets c.loop-done.marks c.take.new.self c.loop-done.steps lt taken c.loop-done.invariant.up.3 in
    shown_at c.args.circuit.now c.args.plan.now c.args.rows.now c.args.inputs.now c.args.store.now c.args.before.now.nets c.args.steps.now c.requires.nodes c.requires.roots c.requires.sources c.requires.rows c.in-Some.place n c.loop-done.store.nets c.loop-done.marks c.loop-done.steps (at ∙ ap Some is) here

pub update_node-requires-clause-marks : goal.update_node-requires-clause-marks
update_node-requires-clause-marks g c =
    readers_have c.args.circuit.now c.args.plan.now.nodes c.args.plan.now.roots c.args.plan.now.readers c.take.new.self c.requires.readers (c.in-Some.ensures.some.width ∙ c.loop-done.invariant.marked ∙ c.requires.marks)

pub loop-done-preserved : goal.loop-done-preserved
loop-done-preserved g c =
    let taken = c.in-Some.ensures.some in
    let lt : c.in-Some.place < length c.args.plan.now.nodes = (let w = taken.within in omega (arith, w, c.loop-done.invariant.marked, c.requires.marks)) in
    let long : length c.as_slice-nodes.result.now ≡ length c.args.plan.now.nodes = ap (λ (ns : List Node). length ns) c.as_slice-nodes.ensures in
    let at = element c.args.plan.now.nodes c.as_slice-nodes.result.now c.in-Some.place (node.Cell 0) c.as_slice-nodes.ensures (omega (arith, lt, long)) in
    let here = passed_to c.args.circuit.now c.args.plan.now c.args.rows.now c.args.inputs.now c.args.store.now c.args.before.now.nets c.args.steps.now c.requires.nodes c.requires.roots c.requires.sources c.requires.rows c.loop-done.invariant.up.0 c.in-Some.place c.loop-done.store.nets c.loop-done.marks c.take.new.self c.loop-done.steps lt taken c.loop-done.invariant.up.3 in
    let blank = spread_blank c.args.plan.now.roots _ _ _ c.loop-done.store.nets c.update_node.new.store.nets c.update_node.ensures.spread c.loop-done.invariant.blank in
    let least : c.loop-done.invariant.up.0 ≤ c.in-Some.place = c.loop-done.invariant.up.3.ahead c.in-Some.place taken.marked in
    record {
      belongs = c.update_node.ensures.store;
      regs = c.update_node.ensures.regs ∙ c.loop-done.invariant.regs;
      reads = c.update_node.ensures.reads ∙ c.loop-done.invariant.reads;
      rooms_same = c.update_node.ensures.rooms ∙ c.loop-done.invariant.rooms_same;
      blank = blank;
      marked = c.update_node.ensures.told.width ∙ taken.width ∙ c.loop-done.invariant.marked;
      up = (
        c.in-Some.place + 1,
        omega (arith, least, c.loop-done.invariant.up.1),
        omega (arith, lt),
        brought_up c.args.circuit.now c.args.plan.now c.args.rows.now c.args.inputs.now c.args.store.now c.args.before.now.nets c.args.steps.now c.requires.nodes c.requires.roots c.requires.sources c.requires.rows
            c.requires.readers c.requires.follow c.in-Some.place (get_or c.as_slice-nodes.result.now c.in-Some.place (node.Cell 0)) c.loop-done.store.nets c.update_node.new.store.nets c.loop-done.marks c.take.new.self c.update_node.new.marks c.loop-done.steps c.update_node.new.steps at taken
            c.loop-done.invariant.blank blank c.update_node.ensures.told c.update_node.ensures.listed c.update_node.ensures.spread
            (λ state digits holds valued.
            c.update_node.ensures.steps
            ∙ ap (λ n. c.loop-done.steps + n)
            (node_changes_right c.args.circuit.now c.args.plan.now.nodes c.args.plan.now.roots c.in-Some.place _ (digits_in c.args.before.now.nets) digits c.loop-done.store.nets c.requires.nodes c.requires.roots (here.right state digits holds valued) at))
            here,
      );
    }

pub returns-in-None-clause-nets : goal.returns-in-None-clause-nets
returns-in-None-clause-nets g c =
    end_nets c.args.circuit.now c.args.plan.now c.args.rows.now c.args.inputs.now c.args.store.now c.args.before.now.nets c.args.steps.now c.requires.nodes c.requires.roots c.requires.sources c.requires.rows
    c.one_valuation.ensures.valuation c.loop-done.store.nets c.loop-done.marks c.loop-done.steps
    (all_passed c.args.circuit.now c.args.plan.now c.args.rows.now c.args.inputs.now c.args.store.now c.args.before.now.nets c.args.steps.now c.requires.nodes c.requires.roots c.requires.sources c.requires.rows c.loop-done.invariant.up.0 c.loop-done.store.nets c.loop-done.marks c.loop-done.steps c.loop-done.invariant.up.2 (c.take.ensures.none c.in-None.is) c.loop-done.invariant.up.3) c.loop-done.invariant.belongs.nets

pub returns-clause-nets : goal.returns-clause-nets
returns-clause-nets g c =
    let all : c.loop-done.invariant.up.0 ≡ length c.args.plan.now.nodes = omega (arith, c.loop-done-test.false, c.loop-done.invariant.up.1, c.loop-done.invariant.up.2, ap (λ (ns : List Node). length ns) c.as_slice-nodes.ensures) in
    end_nets c.args.circuit.now c.args.plan.now c.args.rows.now c.args.inputs.now c.args.store.now c.args.before.now.nets c.args.steps.now c.requires.nodes c.requires.roots c.requires.sources c.requires.rows
    c.one_valuation.ensures.valuation c.loop-done.store.nets c.loop-done.marks c.loop-done.steps
    (subst (λ (k : ℕ). IsUpTo c.args.circuit.now c.args.plan.now c.args.rows.now c.args.inputs.now c.args.store.now c.args.before.now.nets c.args.steps.now k c.loop-done.store.nets c.loop-done.marks c.loop-done.steps) all c.loop-done.invariant.up.3) c.loop-done.invariant.belongs.nets

pub returns-in-None-clause-digits : goal.returns-in-None-clause-digits
returns-in-None-clause-digits g c =
    end_digits c.args.circuit.now c.args.plan.now c.args.rows.now c.args.inputs.now c.args.store.now c.args.before.now.nets c.args.steps.now c.requires.nodes c.requires.roots c.requires.sources c.requires.rows
    c.one_valuation.ensures.valuation c.loop-done.store.nets c.loop-done.marks c.loop-done.steps
    (all_passed c.args.circuit.now c.args.plan.now c.args.rows.now c.args.inputs.now c.args.store.now c.args.before.now.nets c.args.steps.now c.requires.nodes c.requires.roots c.requires.sources c.requires.rows c.loop-done.invariant.up.0 c.loop-done.store.nets c.loop-done.marks c.loop-done.steps c.loop-done.invariant.up.2 (c.take.ensures.none c.in-None.is) c.loop-done.invariant.up.3)

pub returns-clause-digits : goal.returns-clause-digits
returns-clause-digits g c =
    let all : c.loop-done.invariant.up.0 ≡ length c.args.plan.now.nodes = omega (arith, c.loop-done-test.false, c.loop-done.invariant.up.1, c.loop-done.invariant.up.2, ap (λ (ns : List Node). length ns) c.as_slice-nodes.ensures) in
    end_digits c.args.circuit.now c.args.plan.now c.args.rows.now c.args.inputs.now c.args.store.now c.args.before.now.nets c.args.steps.now c.requires.nodes c.requires.roots c.requires.sources c.requires.rows
    c.one_valuation.ensures.valuation c.loop-done.store.nets c.loop-done.marks c.loop-done.steps
    (subst (λ (k : ℕ). IsUpTo c.args.circuit.now c.args.plan.now c.args.rows.now c.args.inputs.now c.args.store.now c.args.before.now.nets c.args.steps.now k c.loop-done.store.nets c.loop-done.marks c.loop-done.steps) all c.loop-done.invariant.up.3)

pub returns-in-None-clause-shown : goal.returns-in-None-clause-shown
returns-in-None-clause-shown g c =
    end_shown c.args.circuit.now c.args.plan.now c.args.rows.now c.args.inputs.now c.args.store.now c.args.before.now.nets c.args.steps.now c.requires.nodes c.requires.roots c.requires.sources c.requires.rows
    c.one_valuation.ensures.valuation c.loop-done.store.nets c.loop-done.marks c.loop-done.steps
    (all_passed c.args.circuit.now c.args.plan.now c.args.rows.now c.args.inputs.now c.args.store.now c.args.before.now.nets c.args.steps.now c.requires.nodes c.requires.roots c.requires.sources c.requires.rows c.loop-done.invariant.up.0 c.loop-done.store.nets c.loop-done.marks c.loop-done.steps c.loop-done.invariant.up.2 (c.take.ensures.none c.in-None.is) c.loop-done.invariant.up.3)

pub returns-clause-shown : goal.returns-clause-shown
returns-clause-shown g c =
    let all : c.loop-done.invariant.up.0 ≡ length c.args.plan.now.nodes = omega (arith, c.loop-done-test.false, c.loop-done.invariant.up.1, c.loop-done.invariant.up.2, ap (λ (ns : List Node). length ns) c.as_slice-nodes.ensures) in
    end_shown c.args.circuit.now c.args.plan.now c.args.rows.now c.args.inputs.now c.args.store.now c.args.before.now.nets c.args.steps.now c.requires.nodes c.requires.roots c.requires.sources c.requires.rows
    c.one_valuation.ensures.valuation c.loop-done.store.nets c.loop-done.marks c.loop-done.steps
    (subst (λ (k : ℕ). IsUpTo c.args.circuit.now c.args.plan.now c.args.rows.now c.args.inputs.now c.args.store.now c.args.before.now.nets c.args.steps.now k c.loop-done.store.nets c.loop-done.marks c.loop-done.steps) all c.loop-done.invariant.up.3)

pub returns-in-None-clause-steps : goal.returns-in-None-clause-steps
returns-in-None-clause-steps g c =
    end_steps c.args.circuit.now c.args.plan.now c.args.rows.now c.args.inputs.now c.args.store.now c.args.before.now.nets c.args.steps.now c.requires.nodes c.requires.roots c.requires.sources c.requires.rows
    c.one_valuation.ensures.valuation c.loop-done.store.nets c.loop-done.marks c.loop-done.steps
    (all_passed c.args.circuit.now c.args.plan.now c.args.rows.now c.args.inputs.now c.args.store.now c.args.before.now.nets c.args.steps.now c.requires.nodes c.requires.roots c.requires.sources c.requires.rows c.loop-done.invariant.up.0 c.loop-done.store.nets c.loop-done.marks c.loop-done.steps c.loop-done.invariant.up.2 (c.take.ensures.none c.in-None.is) c.loop-done.invariant.up.3)

pub returns-clause-steps : goal.returns-clause-steps
returns-clause-steps g c =
    let all : c.loop-done.invariant.up.0 ≡ length c.args.plan.now.nodes = omega (arith, c.loop-done-test.false, c.loop-done.invariant.up.1, c.loop-done.invariant.up.2, ap (λ (ns : List Node). length ns) c.as_slice-nodes.ensures) in
    end_steps c.args.circuit.now c.args.plan.now c.args.rows.now c.args.inputs.now c.args.store.now c.args.before.now.nets c.args.steps.now c.requires.nodes c.requires.roots c.requires.sources c.requires.rows
    c.one_valuation.ensures.valuation c.loop-done.store.nets c.loop-done.marks c.loop-done.steps
    (subst (λ (k : ℕ). IsUpTo c.args.circuit.now c.args.plan.now c.args.rows.now c.args.inputs.now c.args.store.now c.args.before.now.nets c.args.steps.now k c.loop-done.store.nets c.loop-done.marks c.loop-done.steps) all c.loop-done.invariant.up.3)

pub returns-in-None-clause-marks : goal.returns-in-None-clause-marks
returns-in-None-clause-marks g c = ap (λ (v : BitValue). v.width) (c.take.ensures.same c.in-None.is) ∙ c.loop-done.invariant.marked
