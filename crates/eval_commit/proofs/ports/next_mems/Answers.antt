use Rattle.std.proofs.Common.{◌∙◌, ap, arith, length}
use Rattle.circuit.specs.declared.memory.Mem.{Mem}
use Rattle.sim_base.specs.Values.{widths}
use Rattle.signal_words.specs.Values.{digits_in}
use Rattle.eval_commit.specs.KeptState.{stored_all}
use Rattle.memory_cells.proofs.Fitting.{same_there}
use Rattle.eval_commit.proofs.PortsOver.{long_as, read_as}
use Rattle.eval_commit.proofs.PortsKept.{clocked_all, clocked_first, clocked_more, clocked_told, port_widths}
use Rattle.eval_commit.proofs.ports.next_mems.Goals as goal

pub loop-i-init : goal.loop-i-init
loop-i-init c = clocked_first c.args.circuit.now (digits_in c.args.before.now.nets) (digits_in c.args.now.now.nets) c.args.rows.now c.args.ports.now c.requires.rows

pub at-requires : goal.at-requires
at-requires c =
    let l = long_as widths port_widths c.loop-i.ports c.args.circuit.now.mems (c.loop-i.invariant.wide ∙ c.requires.ports) in
    omega (arith, c.loop-i-test.true, ap (length {A = Mem}) c.as_slice-mem-items.ensures, l)

pub clock-changed-requires-clause-fits : goal.clock-changed-requires-clause-fits
clock-changed-requires-clause-fits c =
    let at = read_as c.args.circuit.now.mems c.as_slice-mem-items.result.now c.loop-i.i c.mem-item.result c.as_slice-mem-items.ensures c.loop-i-test.true c.mem-item.is in
    c.law_of_memories.ensures.memory c.args.circuit.now c.args.before.now c.args.now.now c.loop-i.i c.mem-item.result c.requires.valid c.requires.before c.requires.now at

pub clock-changed-requires-clause-rows : goal.clock-changed-requires-clause-rows
clock-changed-requires-clause-rows c =
    let at = read_as c.args.circuit.now.mems c.as_slice-mem-items.result.now c.loop-i.i c.mem-item.result c.as_slice-mem-items.ensures c.loop-i-test.true c.mem-item.is in
    c.loop-i.invariant.sized.each c.loop-i.i c.mem-item.result c.at-in-loop-i.result.now at c.at-in-loop-i.ensures.value

pub clock-changed-requires-clause-outs : goal.clock-changed-requires-clause-outs
clock-changed-requires-clause-outs c =
    let at = read_as c.args.circuit.now.mems c.as_slice-mem-items.result.now c.loop-i.i c.mem-item.result c.as_slice-mem-items.ensures c.loop-i-test.true c.mem-item.is in
    same_there widths port_widths c.loop-i.ports c.args.circuit.now.mems c.loop-i.i c.at.result.now c.mem-item.result (c.loop-i.invariant.wide ∙ c.requires.ports) c.at.ensures.value at

pub loop-i-preserved : goal.loop-i-preserved
loop-i-preserved c =
    let at = read_as c.args.circuit.now.mems c.as_slice-mem-items.result.now c.loop-i.i c.mem-item.result c.as_slice-mem-items.ensures c.loop-i-test.true c.mem-item.is in
    clocked_more c.args.circuit.now (digits_in c.args.before.now.nets) (digits_in c.args.now.now.nets) (stored_all c.args.rows.now c.args.ports.now) c.args.ports.now c.loop-i.rows c.loop-i.ports c.loop-i.i c.loop-i.changed c.clock-changed.result
    c.mem-item.result c.at-in-loop-i.result.now c.clock-changed.new.rows c.at.result.now c.clock-changed.new.self
    c.loop-i.invariant at c.at-in-loop-i.ensures.value c.at.ensures.value c.clock-changed.ensures.rows c.clock-changed.ensures.widths c.clock-changed.ensures.stored c.clock-changed.ensures.changed

pub returns-clause-rows : goal.returns-clause-rows
returns-clause-rows c = c.loop-i.invariant.sized

pub returns-clause-ports : goal.returns-clause-ports
returns-clause-ports c = c.loop-i.invariant.wide

pub returns-clause-stored : goal.returns-clause-stored
returns-clause-stored c =
    clocked_all c.args.circuit.now (digits_in c.args.before.now.nets) (digits_in c.args.now.now.nets) c.args.rows.now c.args.ports.now c.loop-i.rows c.loop-i.ports c.loop-i.i c.loop-i.changed
    c.requires.rows c.requires.ports (omega (arith, c.loop-i-test.false, ap (length {A = Mem}) c.as_slice-mem-items.ensures)) c.loop-i.invariant

pub returns-clause-changed : goal.returns-clause-changed
returns-clause-changed c =
    clocked_told c.args.circuit.now (digits_in c.args.before.now.nets) (digits_in c.args.now.now.nets) (stored_all c.args.rows.now c.args.ports.now) c.args.ports.now c.loop-i.rows c.loop-i.ports c.loop-i.i c.loop-i.changed c.loop-i.invariant
