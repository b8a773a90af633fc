use Rattle.std.proofs.Common.{◌∙◌, ap, sym, arith, length, List}
use Rattle.driver_check.proofs.Places.{read}
use Rattle.sim_base.specs.BitValue.{BitValue}
use Rattle.sim_base.specs.Values.{widths}
use Rattle.memory_cells.proofs.Fitting.{same_there}
use Rattle.eval_commit.proofs.PortsOver.{long_as, over_all, over_length, over_old, over_put}
use Rattle.eval_commit.proofs.ports.put_reads.Goals as goal

pub at-requires : goal.at-requires
at-requires c =
    let l = over_length c.args.ports.now c.args.store.now.reads c.loop-m.m in
    let e = ap (length {A = List BitValue}) c.loop-m.invariant.reads in
    let w = long_as widths widths c.args.ports.now c.args.store.now.reads (sym c.requires) in
    omega (arith, c.loop-m-test.true, l, e, w)

pub copy_values-requires : goal.copy_values-requires
copy_values-requires c =
    let new = read c.args.ports.now c.loop-m.m c.index-ports-m.result c.loop-m-test.true c.index-ports-m.is in
    let old = over_old c.args.ports.now c.args.store.now.reads c.loop-m.store.reads c.loop-m.m c.at.result.now c.loop-m.invariant.reads c.at.ensures.value in
    sym (ap widths c.as_slice.ensures
    ∙ same_there widths widths c.args.ports.now c.args.store.now.reads c.loop-m.m c.index-ports-m.result c.at.result.now (sym c.requires) new old)

pub loop-m-preserved : goal.loop-m-preserved
loop-m-preserved c =
    let new = read c.args.ports.now c.loop-m.m c.index-ports-m.result c.loop-m-test.true c.index-ports-m.is in
    record {
      nets = c.loop-m.invariant.nets;
      regs = c.loop-m.invariant.regs;
      cells = c.loop-m.invariant.cells;
      reads = over_put c.args.ports.now c.args.store.now.reads c.loop-m.store.reads c.loop-m.m c.index-ports-m.result c.at.result.now c.copy_values.new.into c.loop-m.invariant.reads new c.at.ensures.value (c.copy_values.ensures ∙ c.as_slice.ensures);
    }

pub returns-clause-reads : goal.returns-clause-reads
returns-clause-reads c =
    let w = long_as widths widths c.args.ports.now c.args.store.now.reads (sym c.requires) in
    c.loop-m.invariant.reads ∙ over_all c.args.ports.now c.args.store.now.reads c.loop-m.m w (omega (arith, c.loop-m-test.false))
