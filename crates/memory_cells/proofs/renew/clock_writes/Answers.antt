use Rattle.std.proofs.Common.{List, length, get_or, refl, ◌∙◌, ap, arith}
use Rattle.sim_base.specs.Parts.{parts}
use Rattle.circuit.specs.declared.memory.WritePort.{WritePort}
use Rattle.signal_words.specs.Values.{digits_in}
use Rattle.memory_cells.specs.Ports.{renewed_rows}
use Rattle.sim_base.proofs.Parts.{length-parts, part_below}
use Rattle.memory_cells.proofs.Renewed.{rows_after_none, rows_after_more, rows_whole}
use Rattle.memory_cells.proofs.renew.clock_writes.Goals as goal

pub loop-port-preserved : goal.loop-port-preserved
loop-port-preserved c =
    let m = c.args.mem.now in
    let olds = parts m.width m.size c.args.rows.now.number in
    let rows = parts m.width m.size c.loop-port.rows.number in
    record {
      row = c.renew_where-changed.ensures.row;
      width = c.renew_where-changed.ensures.width ∙ c.loop-port.invariant.width;
      done =
          rows_after_more (digits_in c.args.before.now) (digits_in c.args.now.now) m c.loop-port.port-index c.port-item.result olds rows (parts m.width m.size c.renew_where-changed.new.rows.number) c.loop-port.changed c.renew_where-changed.result
          (omega (arith, c.loop-port-test.true, ap (length {A = WritePort}) c.as_slice-port-items.ensures))
          (c.port-item.is ∙ ap (λ (xs : List WritePort). get_or xs c.loop-port.port-index c.port-item.result) c.as_slice-port-items.ensures)
          (length-parts m.width m.size c.args.rows.now.number) c.loop-port.invariant.done
          (c.renew_where-changed.ensures.rows ∙ ap (λ o. renewed_rows (digits_in c.args.before.now) (digits_in c.args.now.now) m o rows) c.place_written-place.ensures)
          c.renew_where-changed.ensures.changed;
    }

pub loop-port-init : goal.loop-port-init
loop-port-init c = record { row = c.requires.row; width = refl; done = rows_after_none _ _ c.args.mem.now (parts c.args.mem.now.width c.args.mem.now.size c.args.rows.now.number) }

pub returns-clause-rows : goal.returns-clause-rows
returns-clause-rows c =
    let m = c.args.mem.now in
    let olds = parts m.width m.size c.args.rows.now.number in
    rows_whole (digits_in c.args.before.now) (digits_in c.args.now.now) m c.loop-port.port-index olds (parts m.width m.size c.loop-port.rows.number) c.loop-port.changed
    (omega (arith, c.loop-port-test.false, ap (length {A = WritePort}) c.as_slice-port-items.ensures))
    (λ i lt. part_below m.width m.size c.args.rows.now.number i) c.loop-port.invariant.done

pub returns-clause-changed : goal.returns-clause-changed
returns-clause-changed c = c.loop-port.invariant.done.told
