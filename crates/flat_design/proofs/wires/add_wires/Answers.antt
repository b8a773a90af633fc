use Rattle.std.proofs.Common.{◌∙◌, sym, arith}
use Rattle.flat_design.proofs.Loops.{wires_more, wires_all}
use Rattle.flat_design.proofs.wires.add_wires.Goals as goal

pub loop-wire-preserved : goal.loop-wire-preserved
loop-wire-preserved c =
    let f = c.in_ok-add_wire.ensures in record {
      so_far =
          wires_more c.loop-wire.circuit c.add_wire.new.circuit c.args.wires.now c.loop-wire.wire-index c.wire-item.result (omega arith) c.wire-item.is f.ok
          ∙ c.loop-wire.invariant.so_far;
      nets = omega (arith, f.grown.0);
      inputs = omega (arith, f.grown.1);
      cells = f.cells.0 ∙ c.loop-wire.invariant.cells;
      regs = f.cells.1 ∙ c.loop-wire.invariant.regs;
    }

pub returns-clause-ok : goal.returns-clause-ok
returns-clause-ok c =
    sym (wires_all c.loop-wire.circuit c.args.wires.now c.loop-wire.wire-index (omega arith)) ∙ c.loop-wire.invariant.so_far
