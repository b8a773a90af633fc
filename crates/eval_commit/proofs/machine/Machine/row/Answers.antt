use Rattle.std.proofs.Common.{ℕ, sym, ◌∙◌, ap, arith}
use Rattle.std.specs.Prelude.{slice_index}
use Rattle.sim_base.specs.BitValue.{BitValue, bit_value}
use Rattle.eval_commit.proofs.Machines.{row_number, row_sized}
use Rattle.eval_commit.proofs.machine.Machine.row.Goals as goal

pub row-requires-clause-there : goal.row-requires-clause-there
row-requires-clause-there c =
    let sized =
    row_sized c.self.inside.circuit.value c.self.inside.plan c.self.inside.stuck c.self.inside.rounds c.args.self.now c.self.view_is c.self.invariant.1 c.args.mem c.requires.there.0 c.as_slice.result.now c.index-as_slice-mem.result
    c.requires.there.1 c.as_slice.ensures c.index-as_slice-mem.is in
    omega (arith, sized.size, c.requires.there.2)

pub row-requires-clause-width : goal.row-requires-clause-width
row-requires-clause-width c =
    let sized =
    row_sized c.self.inside.circuit.value c.self.inside.plan c.self.inside.stuck c.self.inside.rounds c.args.self.now c.self.view_is c.self.invariant.1 c.args.mem c.requires.there.0 c.as_slice.result.now c.index-as_slice-mem.result
    c.requires.there.1 c.as_slice.ensures c.index-as_slice-mem.is in
    c.requires.there.3 ∙ sym sized.width

pub returns-clause-width : goal.returns-clause-width
returns-clause-width c =
    let sized =
    row_sized c.self.inside.circuit.value c.self.inside.plan c.self.inside.stuck c.self.inside.rounds c.args.self.now c.self.view_is c.self.invariant.1 c.args.mem c.requires.there.0 c.as_slice.result.now c.index-as_slice-mem.result
    c.requires.there.1 c.as_slice.ensures c.index-as_slice-mem.is in
    ap (λ (v : BitValue). v.width) c.row.ensures ∙ sized.width ∙ sym c.requires.there.3

pub returns-clause-row : goal.returns-clause-row
returns-clause-row c s at =
    let sized =
    row_sized c.self.inside.circuit.value c.self.inside.plan c.self.inside.stuck c.self.inside.rounds c.args.self.now c.self.view_is c.self.invariant.1 c.args.mem c.requires.there.0 c.as_slice.result.now c.index-as_slice-mem.result
    c.requires.there.1 c.as_slice.ensures c.index-as_slice-mem.is in
    c.row.ensures
    ∙ ap (λ (w : ℕ). bit_value w (slice_index c.index-as_slice-mem.result.rows c.args.i)) (sized.width ∙ sym c.requires.there.3)
    ∙ ap (bit_value c.args.into.now.width)
    (row_number c.self.inside.circuit.value c.self.inside.plan c.self.inside.stuck c.self.inside.rounds c.args.self.now c.self.view_is c.self.invariant.1 c.args.mem c.args.i c.requires.there.0 c.as_slice.result.now c.index-as_slice-mem.result s
    c.requires.there.1 c.as_slice.ensures c.index-as_slice-mem.is at)
