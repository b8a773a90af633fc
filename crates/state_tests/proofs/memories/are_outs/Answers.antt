use Rattle.std.proofs.Common.{◌≡◌, ◌<◌, length, map, get_or, below_more, eqb, sym, ◌∙◌, ap, arith}
use Rattle.std.proofs.lemmas.Bool.{and_parts}
use Rattle.std.proofs.lemmas.Grind.{same_number_lists}
use Rattle.std.proofs.lemmas.List.{get_or-map, length-map}
use Rattle.sim_base.specs.BitValue.{BitValue}
use Rattle.sim_base.specs.Values.{width_at, widths}
use Rattle.state_cells.proofs.Fitting.{eq_from}
use Rattle.memory_cells.proofs.ReadAfter.{same_width_at}
use Rattle.state_tests.proofs.memories.are_outs.Goals as goal

pub loop-out-preserved : goal.loop-out-preserved
loop-out-preserved c = λ e.
    let t = and_parts c.loop-out.fit (eqb c.width.result c.args.mem.now.width) e in
    let done = c.loop-out.invariant t.0 in
    let here : width_at c.args.outs.now c.loop-out.out-index ≡ c.args.mem.now.width = get_or-map (λ (x : BitValue). x.width) c.args.outs.now c.loop-out.out-index c.out-item.result 0 c.loop-out-test.true ∙ ap (λ (x : BitValue). x.width) (sym c.out-item.is) ∙ sym c.width.ensures.value ∙ eq_from c.width.result c.args.mem.now.width t.1 in
    (done.0, below_more (λ k. get_or (widths c.args.outs.now) k 0 ≡ c.args.mem.now.width) c.loop-out.out-index done.1 here)

pub returns : goal.returns
returns c = λ e.
    let done = c.loop-out.invariant e in
    same_number_lists (widths c.args.outs.now) (map (λ _. c.args.mem.now.width) c.args.mem.now.reads)
    (length-map c.args.outs.now (λ (v : BitValue). v.width) ∙ done.0 ∙ sym (length-map c.args.mem.now.reads (λ _. c.args.mem.now.width)))
    (λ k lt. let in' : k < length c.args.outs.now = omega (arith, length-map c.args.outs.now (λ (v : BitValue). v.width)) in
    done.1 k (omega (arith, c.loop-out-test.false)) ∙ sym (same_width_at c.args.mem.now.reads c.args.mem.now.width k (omega (arith, done.0))))
