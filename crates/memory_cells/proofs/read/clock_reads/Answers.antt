use Rattle.std.proofs.Common.{List, length, get_or, refl, sym, ◌∙◌, ap, arith}
use Rattle.sim_base.specs.Parts.{parts}
use Rattle.circuit.specs.declared.memory.ReadPort.{ReadPort}
use Rattle.sim_base.specs.Values.{numbers}
use Rattle.signal_words.specs.Values.{digits_in}
use Rattle.memory_cells.proofs.Told.{told_none}
use Rattle.memory_cells.proofs.ReadAfter.{out_wide, outs_more, outs_whole, reads_none}
use Rattle.memory_cells.proofs.read.clock_reads.Goals as goal

pub loop-i-init : goal.loop-i-init
loop-i-init c = record {
  row = c.requires.row;
  done = record { wide = refl; after = sym (reads_none _ _ _ _ (numbers c.args.outs.now)); told = told_none (numbers c.args.outs.now) };
}

pub clock_read-changed-requires-clause-out : goal.clock_read-changed-requires-clause-out
clock_read-changed-requires-clause-out c =
    out_wide c.args.mem.now.reads c.args.outs.now c.loop-i.outs c.args.mem.now.width c.loop-i.i c.index-outs-i.result c.requires.outs c.loop-i.invariant.done.wide
    (omega (arith, c.loop-i-test.true, ap (length {A = ReadPort}) c.as_slice-port-items.ensures))

pub loop-i-preserved : goal.loop-i-preserved
loop-i-preserved c = record {
  row = c.clock_read-changed.ensures.row;
  done =
      outs_more (digits_in c.args.before.now) (digits_in c.args.now.now) c.args.mem.now (parts c.args.mem.now.width c.args.mem.now.size c.args.rows.now.number) c.args.mem.now.reads c.args.outs.now c.loop-i.outs c.args.mem.now.width c.loop-i.i
      c.port-item.result c.index-outs-i.result c.clock_read-changed.new.out c.loop-i.changed c.clock_read-changed.result c.requires.outs
      (omega (arith, c.loop-i-test.true, ap (length {A = ReadPort}) c.as_slice-port-items.ensures))
      (c.port-item.is ∙ ap (λ (xs : List ReadPort). get_or xs c.loop-i.i c.port-item.result) c.as_slice-port-items.ensures)
      c.loop-i.invariant.done c.clock_read-changed.ensures.out c.clock_read-changed.ensures.changed;
}

pub returns-clause-outs : goal.returns-clause-outs
returns-clause-outs c =
    outs_whole (digits_in c.args.before.now) (digits_in c.args.now.now) c.args.mem.now (parts c.args.mem.now.width c.args.mem.now.size c.args.rows.now.number) c.args.mem.now.reads c.args.outs.now c.loop-i.outs c.args.mem.now.width c.loop-i.i c.loop-i.changed
    c.requires.outs (omega (arith, c.loop-i-test.false, ap (length {A = ReadPort}) c.as_slice-port-items.ensures)) c.loop-i.invariant.done

pub returns-clause-changed : goal.returns-clause-changed
returns-clause-changed c = c.loop-i.invariant.done.told

pub returns-clause-widths : goal.returns-clause-widths
returns-clause-widths c = c.loop-i.invariant.done.wide
